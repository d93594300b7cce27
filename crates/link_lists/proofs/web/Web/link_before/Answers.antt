use Rattle.std.proofs.Common.{◌≡◌, ◌∙◌, sym, ap}
use Rattle.link_lists.specs.Web.{next_of, prev_of}
use Rattle.link_lists.proofs.web.Web.link_before.Goals as goal

pub returns : goal.returns
returns c =
    let before = c.prev-before.result in
    let e : before ≡ prev_of c.args.self.now c.args.at = c.prev-before.ensures in
    let new = c.set_home.new.self in
    record {
      counts = (
        c.set_home.ensures.counts.0 ∙ c.set_prev-2.ensures.counts.0 ∙ c.set_next-2.ensures.counts.0 ∙ c.set_prev.ensures.counts.0 ∙ c.set_next.ensures.counts.0,
        c.set_home.ensures.counts.1 ∙ c.set_prev-2.ensures.counts.1 ∙ c.set_next-2.ensures.counts.1 ∙ c.set_prev.ensures.counts.1 ∙ c.set_next.ensures.counts.1,
      );
      next_before = ap (next_of new) (sym e) ∙ c.set_home.ensures.next before ∙ c.set_prev-2.ensures.next before
          ∙ c.set_next-2.ensures.others before (λ h. c.requires.before_other (sym e ∙ h)) ∙ c.set_prev.ensures.next before ∙ c.set_next.ensures.here;
      next_id = c.set_home.ensures.next c.args.id ∙ c.set_prev-2.ensures.next c.args.id ∙ c.set_next-2.ensures.here;
      next_others = λ q a b. c.set_home.ensures.next q ∙ c.set_prev-2.ensures.next q ∙ c.set_next-2.ensures.others q b
          ∙ c.set_prev.ensures.next q ∙ c.set_next.ensures.others q (λ h. a (h ∙ e));
      prev_at = c.set_home.ensures.prev c.args.at ∙ c.set_prev-2.ensures.here;
      prev_id = c.set_home.ensures.prev c.args.id ∙ c.set_prev-2.ensures.others c.args.id (λ h. c.requires.at_other (sym h))
          ∙ c.set_next-2.ensures.prev c.args.id ∙ c.set_prev.ensures.here ∙ e;
      prev_others = λ q a b. c.set_home.ensures.prev q ∙ c.set_prev-2.ensures.others q a ∙ c.set_next-2.ensures.prev q
          ∙ c.set_prev.ensures.others q b ∙ c.set_next.ensures.prev q;
      home_id = c.set_home.ensures.here;
      home_others = λ q a. c.set_home.ensures.others q a ∙ c.set_prev-2.ensures.home q ∙ c.set_next-2.ensures.home q
          ∙ c.set_prev.ensures.home q ∙ c.set_next.ensures.home q;
    }
