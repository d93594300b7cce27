use Rattle.std.proofs.Common.{◌≡◌, ◌∙◌, ℕ, Bool, true, subst, List, [], ◌∷◌, ◌++◌, cond, length, arith, sym, ap}
use Rattle.ids_base.specs.declared.class.Class.{Class}
use Rattle.ids_base.specs.declared.class.Class.TheVariants.{Lio, Pio, Aio}
use Rattle.vp_classes.specs.declared.request.IoRequest.{IoRequest}
use Rattle.vp_classes.specs.Asked.{Asked, asked, is_queued, IsInRange}
use Rattle.vp_classes.specs.Queued.{asked_of}
use Rattle.vp_classes.proofs.Queueing.{own-asked, other-set, queued-mark, own-taker, lio-alone, pio-alone, aio-alone, marked-lt, there-in-range}
use Rattle.vp_classes.proofs.queues.Requests.ask.Goals as goal

pub invariant_of-self : goal.invariant_of-self
invariant_of-self c =
    let a = c.self.inside in
    let own = own-taker Lio c.args.request (sym c.in-Lio.is ∙ c.requires.0) in
    let alone = lio-alone c.args.request own in
    record {
      lio = own-asked a.marks c.put.new.marks Lio a.lio.items c.put.new.queue.items c.args.request c.self.invariant.lio own c.put.ensures.queued c.put.ensures.marked;
      pio = other-set a.marks c.put.new.marks Pio a.pio.items c.args.request true c.self.invariant.pio alone.0 c.put.ensures.marked;
      aio = other-set a.marks c.put.new.marks Aio a.aio.items c.args.request true c.self.invariant.aio alone.1 c.put.ensures.marked;
      lio_room = omega (arith, c.self.invariant.lio_room, c.put.ensures.capacity);
      pio_room = c.self.invariant.pio_room;
      aio_room = omega (arith, c.self.invariant.aio_room, c.put.ensures.marked.pages, c.put.ensures.marked.frames);
    }

pub returns-in-Lio : goal.returns-in-Lio
returns-in-Lio c =
    let a = c.self.inside in
    let own = own-taker Lio c.args.request (sym c.in-Lio.is ∙ c.requires.0) in
    let same = queued-mark a.marks Lio a.lio.items c.args.request c.self.invariant.lio own in
    let items : c.put.new.queue.items ≡ cond (is_queued c.args.request a.lio.items) a.lio.items (a.lio.items ++ c.args.request ∷ []) = c.put.ensures.queued ∙ ap (λ (b : Bool). cond b a.lio.items (a.lio.items ++ c.args.request ∷ [])) (sym same) in
    let pages = c.put.ensures.marked.pages in
    let frames = c.put.ensures.marked.frames in
    let now : asked_of a ≡ c.args.self.now = c.self.view_is in
    let this : asked (asked_of a) Lio c.args.request ≡ asked c.args.self.now c.args.class c.args.request = ap (λ (x : Asked). asked x Lio c.args.request) now ∙ ap (λ (x : Class). asked c.args.self.now x c.args.request) (sym c.in-Lio.is) in
    ap (λ (x : ℕ). record { pages = x; frames = length c.put.new.marks.frames.items; lio = c.put.new.queue.items; pio = a.pio.items; aio = a.aio.items }) pages
    ∙ ap (λ (x : ℕ). record { pages = length a.marks.pages.items; frames = x; lio = c.put.new.queue.items; pio = a.pio.items; aio = a.aio.items }) frames
    ∙ ap (λ (x : List IoRequest). record { pages = length a.marks.pages.items; frames = length a.marks.frames.items; lio = x; pio = a.pio.items; aio = a.aio.items }) items
    ∙ this

pub invariant_of-self-in-Pio : goal.invariant_of-self-in-Pio
invariant_of-self-in-Pio c =
    let a = c.self.inside in
    let own = own-taker Pio c.args.request (sym c.in-Pio.is ∙ c.requires.0) in
    let alone = pio-alone c.args.request own in
    record {
      lio = other-set a.marks c.put-in-Pio.new.marks Lio a.lio.items c.args.request true c.self.invariant.lio alone.0 c.put-in-Pio.ensures.marked;
      pio = own-asked a.marks c.put-in-Pio.new.marks Pio a.pio.items c.put-in-Pio.new.queue.items c.args.request c.self.invariant.pio own c.put-in-Pio.ensures.queued c.put-in-Pio.ensures.marked;
      aio = other-set a.marks c.put-in-Pio.new.marks Aio a.aio.items c.args.request true c.self.invariant.aio alone.1 c.put-in-Pio.ensures.marked;
      lio_room = c.self.invariant.lio_room;
      pio_room = omega (arith, c.self.invariant.pio_room, c.put-in-Pio.ensures.capacity);
      aio_room = omega (arith, c.self.invariant.aio_room, c.put-in-Pio.ensures.marked.pages, c.put-in-Pio.ensures.marked.frames);
    }

pub returns-in-Pio : goal.returns-in-Pio
returns-in-Pio c =
    let a = c.self.inside in
    let own = own-taker Pio c.args.request (sym c.in-Pio.is ∙ c.requires.0) in
    let same = queued-mark a.marks Pio a.pio.items c.args.request c.self.invariant.pio own in
    let items : c.put-in-Pio.new.queue.items ≡ cond (is_queued c.args.request a.pio.items) a.pio.items (a.pio.items ++ c.args.request ∷ []) = c.put-in-Pio.ensures.queued ∙ ap (λ (b : Bool). cond b a.pio.items (a.pio.items ++ c.args.request ∷ [])) (sym same) in
    let pages = c.put-in-Pio.ensures.marked.pages in
    let frames = c.put-in-Pio.ensures.marked.frames in
    let now : asked_of a ≡ c.args.self.now = c.self.view_is in
    let this : asked (asked_of a) Pio c.args.request ≡ asked c.args.self.now c.args.class c.args.request = ap (λ (x : Asked). asked x Pio c.args.request) now ∙ ap (λ (x : Class). asked c.args.self.now x c.args.request) (sym c.in-Pio.is) in
    ap (λ (x : ℕ). record { pages = x; frames = length c.put-in-Pio.new.marks.frames.items; lio = a.lio.items; pio = c.put-in-Pio.new.queue.items; aio = a.aio.items }) pages
    ∙ ap (λ (x : ℕ). record { pages = length a.marks.pages.items; frames = x; lio = a.lio.items; pio = c.put-in-Pio.new.queue.items; aio = a.aio.items }) frames
    ∙ ap (λ (x : List IoRequest). record { pages = length a.marks.pages.items; frames = length a.marks.frames.items; lio = a.lio.items; pio = x; aio = a.aio.items }) items
    ∙ this

pub invariant_of-self-in-Aio : goal.invariant_of-self-in-Aio
invariant_of-self-in-Aio c =
    let a = c.self.inside in
    let own = own-taker Aio c.args.request (sym c.in-Aio.is ∙ c.requires.0) in
    let alone = aio-alone c.args.request own in
    record {
      lio = other-set a.marks c.put-in-Aio.new.marks Lio a.lio.items c.args.request true c.self.invariant.lio alone.0 c.put-in-Aio.ensures.marked;
      pio = other-set a.marks c.put-in-Aio.new.marks Pio a.pio.items c.args.request true c.self.invariant.pio alone.1 c.put-in-Aio.ensures.marked;
      aio = own-asked a.marks c.put-in-Aio.new.marks Aio a.aio.items c.put-in-Aio.new.queue.items c.args.request c.self.invariant.aio own c.put-in-Aio.ensures.queued c.put-in-Aio.ensures.marked;
      lio_room = c.self.invariant.lio_room;
      pio_room = c.self.invariant.pio_room;
      aio_room = omega (arith, c.put-in-Aio.ensures.capacity, c.self.invariant.aio_room, c.put-in-Aio.ensures.marked.pages, c.put-in-Aio.ensures.marked.frames);
    }

pub returns-in-Aio : goal.returns-in-Aio
returns-in-Aio c =
    let a = c.self.inside in
    let own = own-taker Aio c.args.request (sym c.in-Aio.is ∙ c.requires.0) in
    let same = queued-mark a.marks Aio a.aio.items c.args.request c.self.invariant.aio own in
    let items : c.put-in-Aio.new.queue.items ≡ cond (is_queued c.args.request a.aio.items) a.aio.items (a.aio.items ++ c.args.request ∷ []) = c.put-in-Aio.ensures.queued ∙ ap (λ (b : Bool). cond b a.aio.items (a.aio.items ++ c.args.request ∷ [])) (sym same) in
    let pages = c.put-in-Aio.ensures.marked.pages in
    let frames = c.put-in-Aio.ensures.marked.frames in
    let now : asked_of a ≡ c.args.self.now = c.self.view_is in
    let this : asked (asked_of a) Aio c.args.request ≡ asked c.args.self.now c.args.class c.args.request = ap (λ (x : Asked). asked x Aio c.args.request) now ∙ ap (λ (x : Class). asked c.args.self.now x c.args.request) (sym c.in-Aio.is) in
    ap (λ (x : ℕ). record { pages = x; frames = length c.put-in-Aio.new.marks.frames.items; lio = a.lio.items; pio = a.pio.items; aio = c.put-in-Aio.new.queue.items }) pages
    ∙ ap (λ (x : ℕ). record { pages = length a.marks.pages.items; frames = x; lio = a.lio.items; pio = a.pio.items; aio = c.put-in-Aio.new.queue.items }) frames
    ∙ ap (λ (x : List IoRequest). record { pages = length a.marks.pages.items; frames = length a.marks.frames.items; lio = a.lio.items; pio = a.pio.items; aio = x }) items
    ∙ this

pub put-requires-in-Aio-clause-room : goal.put-requires-in-Aio-clause-room
put-requires-in-Aio-clause-room c = λ none.
    let a = c.self.inside in
    let there = there-in-range a c.args.request (subst (λ (x : Asked). IsInRange x c.args.request) (sym c.self.view_is) c.requires.1) in
    let own = own-taker Aio c.args.request (sym c.in-Aio.is ∙ c.requires.0) in
    omega (arith, marked-lt a.marks Aio c.args.request there own none, c.self.invariant.aio.len, c.self.invariant.aio_room)
