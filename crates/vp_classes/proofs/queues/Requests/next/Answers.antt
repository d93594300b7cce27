use Rattle.std.proofs.Common.{arith}
use Rattle.ids_base.specs.declared.class.Class.TheVariants.{Lio, Pio, Aio}
use Rattle.vp_classes.proofs.Queueing.{head-there, next-own, next-other, next-size, lio-alone, pio-alone, aio-alone}
use Rattle.vp_classes.proofs.queues.Requests.next.Goals as goal

pub take-requires : goal.take-requires
take-requires c = head-there c.self.inside.marks Lio c.self.inside.lio.items c.self.invariant.lio

pub invariant_of-self : goal.invariant_of-self
invariant_of-self c =
    let a = c.self.inside in
    let size = next-size a.marks c.take.new.marks c.take.result c.take.ensures.marked in
    record {
      lio = next-own a.marks c.take.new.marks Lio a.lio.items c.take.new.queue.items c.take.result c.self.invariant.lio c.take.ensures.head c.take.ensures.rest c.take.ensures.marked;
      pio = next-other a.marks c.take.new.marks Lio Pio a.lio.items a.pio.items c.take.result c.self.invariant.lio c.self.invariant.pio (λ r t. (lio-alone r t).0) c.take.ensures.head c.take.ensures.marked;
      aio = next-other a.marks c.take.new.marks Lio Aio a.lio.items a.aio.items c.take.result c.self.invariant.lio c.self.invariant.aio (λ r t. (lio-alone r t).1) c.take.ensures.head c.take.ensures.marked;
      lio_room = omega (arith, c.self.invariant.lio_room, c.take.ensures.capacity);
      pio_room = c.self.invariant.pio_room;
      aio_room = omega (arith, c.self.invariant.aio_room, size.0, size.1);
    }

pub take-requires-in-Pio : goal.take-requires-in-Pio
take-requires-in-Pio c = head-there c.self.inside.marks Pio c.self.inside.pio.items c.self.invariant.pio

pub invariant_of-self-in-Pio : goal.invariant_of-self-in-Pio
invariant_of-self-in-Pio c =
    let a = c.self.inside in
    let size = next-size a.marks c.take-in-Pio.new.marks c.take-in-Pio.result c.take-in-Pio.ensures.marked in
    record {
      lio = next-other a.marks c.take-in-Pio.new.marks Pio Lio a.pio.items a.lio.items c.take-in-Pio.result c.self.invariant.pio c.self.invariant.lio (λ r t. (pio-alone r t).0) c.take-in-Pio.ensures.head c.take-in-Pio.ensures.marked;
      pio = next-own a.marks c.take-in-Pio.new.marks Pio a.pio.items c.take-in-Pio.new.queue.items c.take-in-Pio.result c.self.invariant.pio c.take-in-Pio.ensures.head c.take-in-Pio.ensures.rest c.take-in-Pio.ensures.marked;
      aio = next-other a.marks c.take-in-Pio.new.marks Pio Aio a.pio.items a.aio.items c.take-in-Pio.result c.self.invariant.pio c.self.invariant.aio (λ r t. (pio-alone r t).1) c.take-in-Pio.ensures.head c.take-in-Pio.ensures.marked;
      lio_room = c.self.invariant.lio_room;
      pio_room = omega (arith, c.self.invariant.pio_room, c.take-in-Pio.ensures.capacity);
      aio_room = omega (arith, c.self.invariant.aio_room, size.0, size.1);
    }

pub take-requires-in-Aio : goal.take-requires-in-Aio
take-requires-in-Aio c = head-there c.self.inside.marks Aio c.self.inside.aio.items c.self.invariant.aio

pub invariant_of-self-in-Aio : goal.invariant_of-self-in-Aio
invariant_of-self-in-Aio c =
    let a = c.self.inside in
    let size = next-size a.marks c.take-in-Aio.new.marks c.take-in-Aio.result c.take-in-Aio.ensures.marked in
    record {
      lio = next-other a.marks c.take-in-Aio.new.marks Aio Lio a.aio.items a.lio.items c.take-in-Aio.result c.self.invariant.aio c.self.invariant.lio (λ r t. (aio-alone r t).0) c.take-in-Aio.ensures.head c.take-in-Aio.ensures.marked;
      pio = next-other a.marks c.take-in-Aio.new.marks Aio Pio a.aio.items a.pio.items c.take-in-Aio.result c.self.invariant.aio c.self.invariant.pio (λ r t. (aio-alone r t).1) c.take-in-Aio.ensures.head c.take-in-Aio.ensures.marked;
      aio = next-own a.marks c.take-in-Aio.new.marks Aio a.aio.items c.take-in-Aio.new.queue.items c.take-in-Aio.result c.self.invariant.aio c.take-in-Aio.ensures.head c.take-in-Aio.ensures.rest c.take-in-Aio.ensures.marked;
      lio_room = c.self.invariant.lio_room;
      pio_room = c.self.invariant.pio_room;
      aio_room = omega (arith, c.take-in-Aio.ensures.capacity, c.self.invariant.aio_room, size.0, size.1);
    }
