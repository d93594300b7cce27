use Rattle.std.proofs.Common.{◌++◌, List, [], ◌∷◌, ap, ◌∙◌, arith}
use Rattle.log_records.specs.Entries.{Entry}
use Rattle.log_records.specs.Bodies.{Body, entries_size}
use Rattle.log_records.specs.Viewed.{view_entry}
use Rattle.log_records.proofs.Kept.{used_is, few, appended}
use Rattle.log_records.proofs.block_body.BlockBody.append.Goals as goal

pub put_record-requires : goal.put_record-requires
put_record-requires c =
    let used = used_is c.self.inside.count c.self.inside.used c.self.inside.bytes c.self.invariant ∙ ap (λ (b : Body). entries_size b.entries) c.self.view_is in
    omega (arith, used, c.requires.room, c.requires.size, c.self.invariant.long)

pub overflow_add-self-2 : goal.overflow_add-self-2
overflow_add-self-2 c = omega (arith, few c.self.inside.count c.self.inside.used c.self.inside.bytes c.self.invariant)

pub invariant_of-self : goal.invariant_of-self
invariant_of-self c =
    let used = used_is c.self.inside.count c.self.inside.used c.self.inside.bytes c.self.invariant ∙ ap (λ (b : Body). entries_size b.entries) c.self.view_is in
    (appended c.self.inside.count c.self.inside.used c.args.size c.put_record.result c.self.inside.bytes c.put_record.new.into (view_entry c.args.view.now) c.self.invariant c.put_record.ensures.entry c.requires.size (omega (arith, used, c.requires.room)) c.put_record.auto.into c.put_record.ensures.end c.put_record.ensures.front).keeps

pub returns : goal.returns
returns c =
    let used = used_is c.self.inside.count c.self.inside.used c.self.inside.bytes c.self.invariant ∙ ap (λ (b : Body). entries_size b.entries) c.self.view_is in
    let a = appended c.self.inside.count c.self.inside.used c.args.size c.put_record.result c.self.inside.bytes c.put_record.new.into (view_entry c.args.view.now) c.self.invariant c.put_record.ensures.entry c.requires.size (omega (arith, used, c.requires.room)) c.put_record.auto.into c.put_record.ensures.end c.put_record.ensures.front in
    let with_entries : List Entry → Body = λ es. record { number = c.self.inside.number; entries = es } in
    let put_behind : Body → Body = λ b. record { number = b.number; entries = b.entries ++ view_entry c.args.view.now ∷ [] } in
    ap with_entries a.after ∙ ap put_behind c.self.view_is
