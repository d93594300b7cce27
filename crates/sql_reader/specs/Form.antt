-- A language of tokens with blanks between them.
use Rattle.std.specs.Prelude.{◌≡◌, ℕ, Bool, true, false, not, List, [], ◌∷◌, ◌++◌, ◌⊎◌}
use Rattle.std.specs.List.{list_all}
use Rattle.sql_reader.specs.declared.token.Edge.{Edge}
use Rattle.sql_reader.specs.declared.token.Edge.TheVariants.{Free, Wordy, Closed}

-- K are the kinds of token, Q the places between tokens.
pub record Lexicon (K Q : Type 0) : Type 0 where
  pub whole : K → List ℕ → Bool  -- the bytes are a token of the kind
  pub begins : K → List ℕ → Bool  -- some token of the kind begins so
  pub blank : ℕ → Bool
  pub clings : K → Bool  -- no such token stands right behind a word or a number
  pub edge : K → Edge  -- what the token leaves before the next
  pub row : Q → List (K × Q)  -- which tokens may come, and where each leads
  pub last : Q → Bool  -- nothing more need come

abbrev pub InRow : {K Q : Type 0} → List (K × Q) → K → Q → Type 0
InRow [] k q = ⊥
InRow (a ∷ more) k q = ((a.0 ≡ k) × (a.1 ≡ q)) ⊎ InRow more k q

-- the kinds lead from the place to an end
abbrev pub Runs : {K Q : Type 0} → Lexicon K Q → Q → List K → Type 0
Runs g q [] = g.last q ≡ true
Runs {K} {Q} g q (k ∷ ks) = (r : Q) × InRow (g.row q) k r × Runs g r ks

abbrev pub is_empty : List ℕ → Bool
is_empty [] = true
is_empty (b ∷ bs) = false

abbrev pub is_gap : (ℕ → Bool) → Edge → List ℕ → Bool
is_gap blank Closed gap = is_empty gap
is_gap blank Free gap = list_all blank gap
is_gap blank Wordy gap = list_all blank gap

-- whether a token may stand right behind the edge
abbrev pub fits : Bool → Edge → Bool
fits clings Free = true
fits clings Wordy = not clings
fits clings Closed = true

-- The bytes spell tokens of these kinds, with blanks before, between and after them.
abbrev pub Spelled : {K Q : Type 0} → Lexicon K Q → Edge → List K → List ℕ → Type 0
Spelled g e [] bytes = is_gap g.blank e bytes ≡ true
Spelled g e (k ∷ ks) bytes = (gap token rest : List ℕ) × (bytes ≡ gap ++ (token ++ rest))
    × (is_gap g.blank e gap ≡ true) × (g.whole k token ≡ true)
    × ((is_empty gap ≡ false) ⊎ (fits (g.clings k) e ≡ true))
    × Spelled g (g.edge k) ks rest

-- The bytes are in the language from here on.
abbrev pub From : {K Q : Type 0} → Lexicon K Q → Q → Edge → List ℕ → Type 0
From {K} {Q} g q e bytes = (ks : List K) × Runs g q ks × Spelled g e ks bytes

abbrev pub is_open : Edge → Bool
is_open Free = true
is_open Wordy = true
is_open Closed = false

-- What the tokens alone keep.
pub record Sound {K Q : Type 0} (g : Lexicon K Q) : Type 0 where
  pub front : (k : K) (p u : List ℕ) → g.begins k (p ++ u) ≡ true → g.begins k p ≡ true
  pub starts : (k : K) (p : List ℕ) → g.whole k p ≡ true → g.begins k p ≡ true
  pub grows : (k : K) (p : List ℕ) → g.begins k p ≡ true → (u : List ℕ) × (g.whole k (p ++ u) ≡ true)
  pub some : (k : K) → g.whole k [] ≡ false
  pub silent : (k : K) → g.begins k [] ≡ true
  pub solid : (k : K) (b : ℕ) (u : List ℕ) → g.begins k (b ∷ u) ≡ true → g.blank b ≡ false
  pub space : g.blank 32 ≡ true

-- What makes reading from the left exact.
pub record Lawful {K Q : Type 0} (g : Lexicon K Q) : Type 0 where
  pub sound : Sound g
  -- at one place no bytes are tokens of two kinds that lead to different places
  pub one : (q : Q) (k l : K) (r s : Q) → InRow (g.row q) k r → InRow (g.row q) l s → (p : List ℕ) → g.whole k p ≡ true → g.whole l p ≡ true → (r ≡ s) × (k ≡ l)
  -- where a token could go on, nothing else may come
  pub clash : (q : Q) (k l : K) (r s : Q) → InRow (g.row q) k r → InRow (g.row q) l s → (p : List ℕ) (b : ℕ) (w : List ℕ) → g.whole k p ≡ true → g.begins l (p ++ (b ∷ [])) ≡ true → From g r (g.edge k) (b ∷ w) → ⊥
  pub ending : (q : Q) → (ks : List K) × Runs g q ks

-- The same, with the bytes of each token: a reading.
abbrev pub kinds : {K : Type 0} → List (K × List ℕ) → List K
kinds [] = []
kinds (t ∷ ts) = t.0 ∷ kinds ts

abbrev pub Reads : {K Q : Type 0} → Lexicon K Q → Edge → List (K × List ℕ) → List ℕ → Type 0
Reads g e [] bytes = is_gap g.blank e bytes ≡ true
Reads g e (t ∷ ts) bytes = (gap rest : List ℕ) × (bytes ≡ gap ++ (t.1 ++ rest))
    × (is_gap g.blank e gap ≡ true) × (g.whole t.0 t.1 ≡ true)
    × ((is_empty gap ≡ false) ⊎ (fits (g.clings t.0) e ≡ true))
    × Reads g (g.edge t.0) ts rest
