-- The two tables of lock modes, and the laws of covering.
use Rattle.std.specs.Prelude.{◌≡◌, Bool, true, false, ◌&&◌, ◌||◌}
use Rattle.ids_base.specs.declared.lock.LockMode.{LockMode}
use Rattle.ids_base.specs.declared.lock.LockMode.TheVariants.{IS, IX, S, U, SIX, X}

-- two threads may hold these modes at once
abbrev pub compatible_modes : LockMode → LockMode → Bool
compatible_modes IS IS = true
compatible_modes IS IX = true
compatible_modes IS S = true
compatible_modes IS U = true
compatible_modes IS SIX = true
compatible_modes IS X = false
compatible_modes IX IS = true
compatible_modes IX IX = true
compatible_modes IX S = false
compatible_modes IX U = false
compatible_modes IX SIX = false
compatible_modes IX X = false
compatible_modes S IS = true
compatible_modes S IX = false
compatible_modes S S = true
compatible_modes S U = true
compatible_modes S SIX = false
compatible_modes S X = false
compatible_modes U IS = true
compatible_modes U IX = false
compatible_modes U S = true
compatible_modes U U = false
compatible_modes U SIX = false
compatible_modes U X = false
compatible_modes SIX IS = true
compatible_modes SIX IX = false
compatible_modes SIX S = false
compatible_modes SIX U = false
compatible_modes SIX SIX = false
compatible_modes SIX X = false
compatible_modes X IS = false
compatible_modes X IX = false
compatible_modes X S = false
compatible_modes X U = false
compatible_modes X SIX = false
compatible_modes X X = false

-- the least covering mode
abbrev pub covering_mode : LockMode → LockMode → LockMode
covering_mode IS IS = IS
covering_mode IS IX = IX
covering_mode IS S = S
covering_mode IS U = U
covering_mode IS SIX = SIX
covering_mode IS X = X
covering_mode IX IS = IX
covering_mode IX IX = IX
covering_mode IX S = SIX
covering_mode IX U = X
covering_mode IX SIX = SIX
covering_mode IX X = X
covering_mode S IS = S
covering_mode S IX = SIX
covering_mode S S = S
covering_mode S U = U
covering_mode S SIX = SIX
covering_mode S X = X
covering_mode U IS = U
covering_mode U IX = X
covering_mode U S = U
covering_mode U U = U
covering_mode U SIX = X
covering_mode U X = X
covering_mode SIX IS = SIX
covering_mode SIX IX = SIX
covering_mode SIX S = SIX
covering_mode SIX U = X
covering_mode SIX SIX = SIX
covering_mode SIX X = X
covering_mode X IS = X
covering_mode X IX = X
covering_mode X S = X
covering_mode X U = X
covering_mode X SIX = X
covering_mode X X = X

-- the mode a covers b
abbrev pub Covers : LockMode → LockMode → Type 0
Covers a b = covering_mode a b ≡ a

abbrev pub CoversBoth : Type 0
CoversBoth = (a b : LockMode) → Covers (covering_mode a b) a × Covers (covering_mode a b) b

abbrev pub IsLeastCover : Type 0
IsLeastCover = (a b c : LockMode) → Covers c a → Covers c b → Covers c (covering_mode a b)

abbrev pub CoversItself : Type 0
CoversItself = (a : LockMode) → Covers a a

abbrev pub Commutes : Type 0
Commutes = (a b : LockMode) → covering_mode a b ≡ covering_mode b a

abbrev pub CoversInTurn : Type 0
CoversInTurn = (a b c : LockMode) → Covers a b → Covers b c → Covers a c

abbrev pub CoversOneWay : Type 0
CoversOneWay = (a b : LockMode) → Covers a b → Covers b a → a ≡ b

abbrev pub ConflictsBothWays : Type 0
ConflictsBothWays = (a b : LockMode) → compatible_modes a b ≡ compatible_modes b a

abbrev pub CoverConflictsMore : Type 0
CoverConflictsMore = (a b c : LockMode) → Covers a b → compatible_modes a c ≡ true → compatible_modes b c ≡ true
