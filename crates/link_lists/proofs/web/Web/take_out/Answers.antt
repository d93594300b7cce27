use Rattle.std.proofs.Common.{◌≡◌, ◌∙◌, sym, ap}
use Rattle.link_lists.specs.Web.{next_of, prev_of}
use Rattle.link_lists.proofs.web.Web.take_out.Goals as goal

pub returns : goal.returns
returns c =
    let before = c.prev-before.result in
    let behind = c.next-behind.result in
    let e : before ≡ prev_of c.args.self.now c.args.id = c.prev-before.ensures in
    let f : behind ≡ next_of c.args.self.now c.args.id = c.next-behind.ensures in
    let new = c.set_home.new.self in
    record {
      counts = (
        c.set_home.ensures.counts.0 ∙ c.set_prev.ensures.counts.0 ∙ c.set_next.ensures.counts.0,
        c.set_home.ensures.counts.1 ∙ c.set_prev.ensures.counts.1 ∙ c.set_next.ensures.counts.1,
      );
      next_before = ap (next_of new) (sym e) ∙ c.set_home.ensures.next before ∙ c.set_prev.ensures.next before ∙ c.set_next.ensures.here ∙ f;
      next_others = λ q a. c.set_home.ensures.next q ∙ c.set_prev.ensures.next q ∙ c.set_next.ensures.others q (λ h. a (h ∙ e));
      prev_behind = ap (prev_of new) (sym f) ∙ c.set_home.ensures.prev behind ∙ c.set_prev.ensures.here ∙ e;
      prev_others = λ q a. c.set_home.ensures.prev q ∙ c.set_prev.ensures.others q (λ h. a (h ∙ f)) ∙ c.set_next.ensures.prev q;
      home_id = c.set_home.ensures.here;
      home_others = λ q a. c.set_home.ensures.others q a ∙ c.set_prev.ensures.home q ∙ c.set_next.ensures.home q;
    }
