use Rattle.std.proofs.Common.{arith}
use Rattle.ids_base.specs.declared.class.Class.TheVariants.{Lio, Pio, Aio}
use Rattle.vp_classes.proofs.Queueing.{new-marked, new-size}
use Rattle.vp_classes.proofs.queues.Requests.new.Goals as goal

pub invariant_of-result : goal.invariant_of-result
invariant_of-result c =
    let m = c.in_ok-marks.marks in
    let none = c.in_ok-marks.ensures in
    let size = new-size m c.args.pages c.args.frames none in
    record {
      lio = new-marked m c.args.pages c.args.frames Lio c.in_ok-lio.lio.items none c.in_ok-lio.ensures.items;
      pio = new-marked m c.args.pages c.args.frames Pio c.in_ok-pio.pio.items none c.in_ok-pio.ensures.items;
      aio = new-marked m c.args.pages c.args.frames Aio c.in_ok-aio.aio.items none c.in_ok-aio.ensures.items;
      lio_room = omega (arith, c.in_ok-lio.ensures.capacity);
      pio_room = omega (arith, c.in_ok-pio.ensures.capacity);
      aio_room = omega (arith, c.in_ok-aio.ensures.capacity, size.0, size.1);
    }
