use Rattle.std.proofs.Common.{◌≡◌, ◌∙◌, ◌++◌, [], ◌∷◌, List, ℕ, Bool, refl, ap, sym, if◌then◌else◌}
use Rattle.std.specs.Int.{w16, w64, to_be_bytes}
use Rattle.chunk_map.proofs.Numbers.{all_zero, put_as}
use Rattle.chunk_map.specs.Checkpoints.{checkpoint_body}
use Rattle.chunk_map.proofs.checkpoint.CheckpointPage.bytes.Goals as goal
use Rattle.chunk_map.proofs.checkpoint.CheckpointPage.bytes.Goals.{then-self, else-self}

pub returns-clause-body : goal.returns-clause-body
unfolding checkpoint_body
returns-clause-body c =
    let p = c.args.self.now in
    let kind_is : c.if-self.kind ≡ (if p.quiet then 0 else 1) = elim c.if-self.branch [
      | then-self w ↦ w.kind-is ∙ sym (ap (λ (b : Bool). if b then 0 else 1) w.if-self.true)
      | else-self w ↦ w.kind-is ∙ sym (ap (λ (b : Bool). if b then 0 else 1) w.if-self.false)
    ] in
    let number : List ℕ = to_be_bytes w64 p.number in
    let kind : List ℕ = number ++ (if p.quiet then 0 else 1) ∷ [] in
    let block : List ℕ = kind ++ to_be_bytes w64 p.start.block in
    let one = put_as [] _ (to_be_bytes w64 p.number) _ 0 c.to_be_bytes.ensures (c.put.ensures [] refl all_zero) in
    let two = put_as number _ ((if p.quiet then 0 else 1) ∷ []) _ 8 (ap (λ (k : ℕ). k ∷ []) kind_is) (c.put-2.ensures number refl one) in
    let three = put_as kind _ (to_be_bytes w64 p.start.block) _ 9 c.to_be_bytes-2.ensures (c.put-3.ensures kind refl two) in
    put_as block _ (to_be_bytes w16 p.start.index) _ 17 c.to_be_bytes-3.ensures (c.put-4.ensures block refl three)
