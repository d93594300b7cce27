-- What a printer has brought to its sink.
use Rattle.std.specs.Prelude.{◌≡◌, ◌≤◌, ◌++◌, ℕ, Bool, true, false, List}
use Rattle.ids_outside.specs.Counts.{Rose}

-- a printer: its sink, the bytes that it has gathered, and whether the sink failed
pub record Printed (K : Type 0) : Type 0 where
  pub sink : K
  pub gathered : List ℕ
  pub failed : Bool

-- these bytes are a front of the text
pub record IsFront (bytes text : List ℕ) : Type 0 where
  pub rest : List ℕ
  pub is : text ≡ bytes ++ rest

-- a front of the piece came behind what was taken before
pub record TakesPart (before after piece : List ℕ) : Type 0 where
  pub front : List ℕ
  pub of : IsFront front piece
  pub is : after ≡ before ++ front

-- where nothing failed, what was taken and what is gathered is the text; else a front of it was taken
pub record Carries (tells : Type 0) (taken gathered : List ℕ) (failed : Bool) (text : List ℕ) : Type 0 where
  pub whole : failed ≡ false → tells → text ≡ taken ++ gathered
  pub front : failed ≡ true → tells → IsFront taken text

-- the same of a printer
abbrev pub PrinterCarries : {K : Type 0} → Type 0 → (K → List ℕ) → Printed K → List ℕ → Type 0
PrinterCarries tells taken printer text = Carries tells (taken printer.sink) printer.gathered printer.failed text

-- the faults did not become fewer since they were so many, and where the sink failed they rose
pub record IsCaused (first faults : ℕ) (failed : Bool) : Type 0 where
  pub later : first ≤ faults
  pub rose : failed ≡ true → Rose first faults

abbrev pub PrinterIsCaused : {K : Type 0} → (K → ℕ) → Printed K → ℕ → Type 0
PrinterIsCaused faults printer first = IsCaused first (faults printer.sink) printer.failed

-- what was taken stays, and more may come behind it
abbrev pub PrinterGrows : {K : Type 0} → Type 0 → (K → List ℕ) → Printed K → Printed K → Type 0
PrinterGrows tells taken old new = tells → IsFront (taken old.sink) (taken new.sink)

-- the printer put these bytes at the end of its text
pub record PrinterPuts {K : Type 0} (tells : Type 0) (taken : K → List ℕ) (faults : K → ℕ) (old new : Printed K) (bytes : List ℕ) : Type 0 where
  pub grows : PrinterGrows tells taken old new
  pub carries : (text : List ℕ) → PrinterCarries tells taken old text → PrinterCarries tells taken new (text ++ bytes)
  pub caused : (first : ℕ) → PrinterIsCaused faults old first → PrinterIsCaused faults new first
