-- Blocks that are poured one by one.
use Rattle.std.proofs.Common.{◌≡◌, ◌≢◌, ℕ, suc, ◌+◌, ◌-◌, ◌<◌, ◌≤◌, List, [], ◌∷◌, ◌++◌, length, get_or, take, drop, ap, sym, refl, ◌∙◌, arith, append_assoc, add-one}
use Rattle.std.proofs.Math.ListN.{set, length-set}
use Rattle.std.proofs.lemmas.List.{get_or-set_same, get_or-set_other, set-set, set_comm, set-get_or, drop-drop, drop_more, take_more, append-nil}
use Rattle.mem_pools.specs.Linked.{Linked, list_at, poured}

pub length-poured : (c : Linked) (from to n : ℕ) → length (poured c from to n).lists ≡ length c.lists
length-poured c from to n = simp length-set

pub from-poured : (c : Linked) (from to n : ℕ) → from < length c.lists → from ≢ to → list_at (poured c from to n) from ≡ drop n (list_at c from)
from-poured c from to n h apart = get_or-set_other (set c.lists from (drop n (list_at c from))) to from _ [] apart ∙ get_or-set_same c.lists from (drop n (list_at c from)) [] h

pub to-poured : (c : Linked) (from to n : ℕ) → to < length c.lists → list_at (poured c from to n) to ≡ list_at c to ++ take n (list_at c from)
to-poured c from to n h = get_or-set_same (set c.lists from (drop n (list_at c from))) to (list_at c to ++ take n (list_at c from)) [] (simp length-set h)

pub other-poured : (c : Linked) (from to n i : ℕ) → i ≢ from → i ≢ to → list_at (poured c from to n) i ≡ list_at c i
other-poured c from to n i off away = get_or-set_other (set c.lists from (drop n (list_at c from))) to i _ [] away ∙ get_or-set_other c.lists from i _ [] off

pub poured-none : (c : Linked) (from to : ℕ) → poured c from to 0 ≡ c
poured-none c from to =
    let lists : (poured c from to 0).lists ≡ c.lists = ap (λ (l : List (List ℕ)). set l to (list_at c to ++ [])) (set-get_or c.lists from []) ∙ ap (λ (l : List ℕ). set c.lists to l) (append-nil (list_at c to)) ∙ set-get_or c.lists to [] in
    ap (λ (l : List (List ℕ)). record c { lists = l }) lists

sets-again : (l : List (List ℕ)) (i j : ℕ) (a b a' b' : List ℕ) → i ≢ j → set (set (set (set l i a) j b) i a') j b' ≡ set (set l i a') j b'
sets-again l i j a b a' b' apart =
    ap (λ (m : List (List ℕ)). set m j b') (set_comm (set l i a) j i b a' (λ e. apart (sym e)) ∙ ap (λ (m : List (List ℕ)). set m j b) (set-set l i a a')) ∙ set-set (set l i a') j b b'

pub poured-more : (c : Linked) (from to n : ℕ) → from < length c.lists → to < length c.lists → from ≢ to → n < length (list_at c from) → poured (poured c from to n) from to 1 ≡ poured c from to (n + 1)
poured-more c from to n hf ht apart below =
    let xs = list_at c from in
    let ys = list_at c to in
    let left : drop 1 (list_at (poured c from to n) from) ≡ drop (n + 1) xs = ap (drop 1) (from-poured c from to n hf apart) ∙ drop-drop 1 n xs in
    let one : take 1 (list_at (poured c from to n) from) ≡ get_or xs n 0 ∷ [] = ap (take 1) (from-poured c from to n hf apart ∙ drop_more xs n 0 below) in
    let gained : list_at (poured c from to n) to ++ take 1 (list_at (poured c from to n) from) ≡ ys ++ take (n + 1) xs = ap (λ (l : List ℕ). l ++ take 1 (list_at (poured c from to n) from)) (to-poured c from to n ht) ∙ ap (λ (l : List ℕ). (ys ++ take n xs) ++ l) one ∙ append_assoc ys (take n xs) (get_or xs n 0 ∷ []) ∙ ap (λ (l : List ℕ). ys ++ l) (sym (take_more xs n 0 below)) in
    let lists : (poured (poured c from to n) from to 1).lists ≡ (poured c from to (n + 1)).lists =
    ap (λ (l : List ℕ). set (set (poured c from to n).lists from l) to (list_at (poured c from to n) to ++ take 1 (list_at (poured c from to n) from))) left
    ∙ ap (λ (l : List ℕ). set (set (poured c from to n).lists from (drop (n + 1) xs)) to l) gained
    ∙ sets-again c.lists from to _ _ _ _ apart in
    ap (λ (l : List (List ℕ)). record c { lists = l }) lists
