use Rattle.std.proofs.Common.{◌++◌, [], List, ℕ, codes, refl}
use Rattle.std.specs.Int.{w16, w32, to_be_bytes}
use Rattle.chunk_map.proofs.Numbers.{all_zero, put_as}
use Rattle.chunk_map.specs.Layouts.{identity_body}
use Rattle.chunk_map.proofs.identity.identity_bytes.Goals as goal

pub returns : goal.returns
unfolding identity_body
returns c =
    let l = c.args.layout.now in
    let mark : List ℕ = codes "IDSR" in
    let format : List ℕ = mark ++ to_be_bytes w16 1 in
    let phys : List ℕ = format ++ to_be_bytes w32 l.phys in
    let logs : List ℕ = phys ++ to_be_bytes w32 l.logs in
    let log_size : List ℕ = logs ++ to_be_bytes w32 l.log_size in
    let chunks : List ℕ = log_size ++ to_be_bytes w32 l.chunks in
    let pages : List ℕ = chunks ++ to_be_bytes w32 l.data_pages in
    let one = c.put.ensures [] refl all_zero in
    let two = put_as mark _ (to_be_bytes w16 1) _ 4 c.to_be_bytes.ensures (c.put-2.ensures mark refl one) in
    let three = put_as format _ (to_be_bytes w32 l.phys) _ 6 c.to_be_bytes-2.ensures (c.put-3.ensures format refl two) in
    let four = put_as phys _ (to_be_bytes w32 l.logs) _ 10 c.to_be_bytes-3.ensures (c.put-4.ensures phys refl three) in
    let five = put_as logs _ (to_be_bytes w32 l.log_size) _ 14 c.to_be_bytes-4.ensures (c.put-5.ensures logs refl four) in
    let six = put_as log_size _ (to_be_bytes w32 l.chunks) _ 18 c.to_be_bytes-5.ensures (c.put-6.ensures log_size refl five) in
    let seven = put_as chunks _ (to_be_bytes w32 l.data_pages) _ 22 c.to_be_bytes-6.ensures (c.put-7.ensures chunks refl six) in
    put_as pages _ (to_be_bytes w32 l.root) _ 26 c.to_be_bytes-7.ensures (c.put-8.ensures pages refl seven)
