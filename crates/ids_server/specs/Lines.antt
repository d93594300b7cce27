-- The line that tells a status.
use Rattle.std.specs.Prelude.{ℕ, List, [], ◌∷◌, ◌++◌, codes}
use Rattle.std.specs.Fmt.{decimal}
use Rattle.ids_base.specs.declared.status.Why.{Why}
use Rattle.ids_base.specs.declared.status.Why.TheVariants.{Cut, Wrong}
use Rattle.ids_base.specs.declared.status.Place.{Place}
use Rattle.ids_base.specs.declared.status.Place.TheVariants.{Identity, Checkpoint, Entry, DataPage, Block, Record, Row}
use Rattle.ids_base.specs.declared.status.Status.{Status}
use Rattle.ids_base.specs.declared.status.Status.TheVariants.{Done, BadWords, BadScript, DiskFault, Memory, SinkFault, SourceFault, TooLong, NotFormatted, Damaged, AlreadyFormatted, TooSmall, LogFull}

abbrev pub why_text : Why → List ℕ
why_text Cut = codes " cut" ++ 10 ∷ []
why_text Wrong = codes " wrong" ++ 10 ∷ []

-- a place of damage
abbrev pub place_text : Place → List ℕ
place_text Identity = codes "identity"
place_text (Checkpoint page) = codes "checkpoint " ++ decimal page
place_text (Entry entry) = codes "entry " ++ decimal entry
place_text (DataPage page) = codes "page " ++ decimal page
place_text (Block block) = codes "block " ++ decimal block
place_text (Record at) = codes "record " ++ decimal at.block ++ codes "." ++ decimal at.index
place_text (Row row) = codes "row " ++ decimal row

-- none where all was done, and none where the sink failed
abbrev pub status_line : Status → List ℕ
status_line Done = []
status_line BadWords = codes "ids: 1 bad words" ++ 10 ∷ []
status_line (BadScript byte why) = codes "ids: 2 bad script at byte " ++ decimal byte ++ why_text why
status_line DiskFault = codes "ids: 3 disk fault" ++ 10 ∷ []
status_line Memory = codes "ids: 4 memory" ++ 10 ∷ []
status_line SinkFault = []
status_line SourceFault = codes "ids: 6 source fault" ++ 10 ∷ []
status_line TooLong = codes "ids: 7 script too long" ++ 10 ∷ []
status_line NotFormatted = codes "ids: 8 not formatted" ++ 10 ∷ []
status_line (Damaged place) = codes "ids: 9 damaged " ++ place_text place ++ 10 ∷ []
status_line AlreadyFormatted = codes "ids: 10 already formatted" ++ 10 ∷ []
status_line (TooSmall pages needed) = codes "ids: 11 too small root " ++ decimal pages ++ codes " needed " ++ decimal needed ++ 10 ∷ []
status_line LogFull = codes "ids: 13 log full" ++ 10 ∷ []
