-- What a command gives back.
use Rattle.std.specs.Prelude.{◌≡◌, ◌⊎◌, ◌<◌, ℕ, Bool, true, false, List, [], length}
use Rattle.ids_base.specs.declared.status.Status.{Status}
use Rattle.ids_base.specs.declared.status.Why.{Why}
use Rattle.ids_base.specs.declared.status.Why.TheVariants.{Wrong}
use Rattle.ids_base.specs.declared.status.Status.TheVariants.{Done, BadWords, BadScript, DiskFault, Memory, SinkFault, SourceFault, TooLong, NotFormatted, Damaged, AlreadyFormatted, TooSmall, LogFull}
use Rattle.ids_outside.specs.Counts.{last_count}
use Rattle.ids_outside.specs.Images.{Image}
use Rattle.ids_model.specs.declared.journal.Committed.{Committed}
use Rattle.ids_model.specs.declared.journal.Given.{Given}
use Rattle.ids_model.specs.Tables.{Tables}
use Rattle.ids_model.specs.Legal.{IsLegal, fold_journal}
use Rattle.ids_model.specs.Matches.{Script, Matches, replies_to, plans_of}
use Rattle.ids_model.specs.Answered.{Answered, fold_first}
use Rattle.ids_model.specs.Covered.{Covered}
use Rattle.ids_engine.specs.Journals.{AreTimely}
use Rattle.fast_recovery.specs.Images.{Recovers}
use Rattle.fast_recovery.specs.Opening.{EachStop}
use Rattle.sql_reader.specs.Lines.{InGrammar, IsBadAt}
use Rattle.sql_reader.specs.Plans.{IsScriptOf}
use Rattle.ids_server.specs.Moments.{HaveMoments}

-- each session has as many replies as statements
abbrev pub AllAnswered : Script → List Given → Type 0
AllAnswered script given = (n : ℕ) → length (replies_to n given) ≡ length (plans_of script n)

-- the source was read to its end
abbrev pub has_read : Status → Bool
has_read Done = true
has_read BadWords = false
has_read (BadScript byte why) = true
has_read DiskFault = true
has_read Memory = false
has_read SinkFault = true
has_read SourceFault = false
has_read TooLong = false
has_read NotFormatted = true
has_read (Damaged place) = true
has_read AlreadyFormatted = false
has_read (TooSmall pages needed) = false
has_read LogFull = true

-- the script was checked and is one
abbrev pub has_checked : Status → Bool
has_checked Done = true
has_checked BadWords = false
has_checked (BadScript byte why) = false
has_checked DiskFault = true
has_checked Memory = false
has_checked SinkFault = true
has_checked SourceFault = false
has_checked TooLong = false
has_checked NotFormatted = true
has_checked (Damaged place) = true
has_checked AlreadyFormatted = false
has_checked (TooSmall pages needed) = false
has_checked LogFull = true

-- an answer that a script can have, once it was read
abbrev pub is_of_script : Status → Bool
is_of_script Done = true
is_of_script BadWords = false
is_of_script (BadScript byte why) = true
is_of_script DiskFault = true
is_of_script Memory = true
is_of_script SinkFault = true
is_of_script SourceFault = false
is_of_script TooLong = false
is_of_script NotFormatted = true
is_of_script (Damaged place) = true
is_of_script AlreadyFormatted = false
is_of_script (TooSmall pages needed) = false
is_of_script LogFull = true

-- an answer that the run of a script in a session can have
abbrev pub is_of_session : Status → Bool
is_of_session Done = true
is_of_session BadWords = false
is_of_session (BadScript byte why) = false
is_of_session DiskFault = true
is_of_session Memory = true
is_of_session SinkFault = true
is_of_session SourceFault = false
is_of_session TooLong = false
is_of_session NotFormatted = false
is_of_session (Damaged place) = false
is_of_session AlreadyFormatted = false
is_of_session (TooSmall pages needed) = false
is_of_session LogFull = true

-- an answer that the command `run` can have
abbrev pub is_of_run : Status → Bool
is_of_run Done = true
is_of_run BadWords = false
is_of_run (BadScript byte why) = true
is_of_run DiskFault = true
is_of_run Memory = true
is_of_run SinkFault = true
is_of_run SourceFault = true
is_of_run TooLong = true
is_of_run NotFormatted = true
is_of_run (Damaged place) = true
is_of_run AlreadyFormatted = false
is_of_run (TooSmall pages needed) = false
is_of_run LogFull = true

-- an answer that formatting by the defaults can have
abbrev pub is_of_init : Status → Bool
is_of_init Done = true
is_of_init BadWords = false
is_of_init (BadScript byte why) = false
is_of_init DiskFault = true
is_of_init Memory = false
is_of_init SinkFault = false
is_of_init SourceFault = false
is_of_init TooLong = false
is_of_init NotFormatted = false
is_of_init (Damaged place) = false
is_of_init AlreadyFormatted = true
is_of_init (TooSmall pages needed) = false
is_of_init LogFull = false

-- an answer that comes only once the disk was found formatted
abbrev pub has_opened : Status → Bool
has_opened Done = true
has_opened BadWords = false
has_opened (BadScript byte why) = false
has_opened DiskFault = false
has_opened Memory = false
has_opened SinkFault = true
has_opened SourceFault = false
has_opened TooLong = false
has_opened NotFormatted = false
has_opened (Damaged place) = true
has_opened AlreadyFormatted = false
has_opened (TooSmall pages needed) = false
has_opened LogFull = true

-- an answer that comes before a call of the disk
abbrev pub is_before_disk : Status → Bool
is_before_disk Done = false
is_before_disk BadWords = true
is_before_disk (BadScript byte why) = true
is_before_disk DiskFault = false
is_before_disk Memory = false
is_before_disk SinkFault = false
is_before_disk SourceFault = true
is_before_disk TooLong = true
is_before_disk NotFormatted = false
is_before_disk (Damaged place) = false
is_before_disk AlreadyFormatted = false
is_before_disk (TooSmall pages needed) = false
is_before_disk LogFull = false

-- an answer by which a disk is refused as it stands
abbrev pub is_of_refused_disk : Status → Bool
is_of_refused_disk Done = false
is_of_refused_disk BadWords = false
is_of_refused_disk (BadScript byte why) = false
is_of_refused_disk DiskFault = false
is_of_refused_disk Memory = false
is_of_refused_disk SinkFault = false
is_of_refused_disk SourceFault = false
is_of_refused_disk TooLong = false
is_of_refused_disk NotFormatted = true
is_of_refused_disk (Damaged place) = true
is_of_refused_disk AlreadyFormatted = true
is_of_refused_disk (TooSmall pages needed) = false
is_of_refused_disk LogFull = false

-- for the script of these bytes, the journal matches it and the replies, and each reply says what the tables of its moment say, from those that were found;
-- where all was done, each statement has its reply; where the bytes are no script, nothing was given and nothing committed; and the place that is told of a bad script is that of
-- the first bad line of the bytes
pub record Serves (bytes : List ℕ) (found : Tables) (status : Status) (journal : List Committed) (given : List Given) : Type 0 where
  pub matches : (script : Script) → IsScriptOf bytes script → Matches script journal given
  pub replies : (script : Script) → IsScriptOf bytes script → Answered script found journal given
  pub answered : status ≡ Done → (script : Script) → IsScriptOf bytes script → AllAnswered script given
  pub ran : has_checked status ≡ true → InGrammar bytes
  pub unread : (journal ≡ []) × (given ≡ []) ⊎ InGrammar bytes
  pub bad : (byte : ℕ) (why : Why) → status ≡ BadScript byte why → IsBadAt bytes byte × (why ≡ Wrong)

-- it is so, or no script was read: the source failed, or memory was wanting
abbrev pub UnlessUnread : Status → Type 0 → Type 0
UnlessUnread status so = so ⊎ (status ≡ SourceFault) ⊎ (status ≡ Memory)

-- it is told of these bytes where their first line begins that is none
abbrev pub IsToldBad : List ℕ → Status → Type 0
IsToldBad bytes status = (byte : ℕ) × IsBadAt bytes byte × (status ≡ BadScript byte Wrong)

-- all was done, but for want of memory, or of a block of the log
abbrev pub IsDoneBut : Status → Type 0
IsDoneBut status = (status ≡ Done) ⊎ (status ≡ Memory) ⊎ (status ≡ LogFull)

-- what a run leaves for a script
pub record HasRun (script : Script) (found : Tables) (status : Status) (journal : List Committed) (given : List Given) : Type 0 where
  pub matches : Matches script journal given
  pub legal : IsLegal found journal
  pub replies : Answered script found journal given
  pub timely : AreTimely journal
  pub answered : status ≡ Done → AllAnswered script given

-- a stop leaves the tables after the first entries of the journal, and each entry that was acknowledged by then is among these
pub record LeavesFirst (T : Tables) (journal : List Committed) (m : ℕ) (c : Image) : Type 0 where
  pub k : ℕ
  pub covered : Covered journal m k
  pub recovers : Recovers c (fold_first T journal k)

-- What `run` leaves for a script of these bytes, over the tables that opening found. Where an image recovers tables, those are the ones that were found, unless opening was refused.
-- A stop leaves the tables after the first entries of the journal, with each that was acknowledged by then: at each moment from that of the beginning on, where nothing but the image
-- could be left then; else at each moment behind it, or the disk failed before anything was given or committed, and a stop leaves what it could have left as the call began. Where all was
-- done, what a stop leaves has the whole journal.
pub record RunsFrom {D : Type 0} (tells : Type 0) (now : D → ℕ) (image : D → Image) (can_leave : D → Image → Type 0) (left_at : D → ℕ → Image → Type 0)
    (bytes : List ℕ) (found : Tables) (old new : D) (status : Status) (journal : List Committed) (given : List Given) : Type 0 where
  pub legal : IsLegal found journal
  pub serves : Serves bytes found status journal given
  pub moments : HaveMoments (now new) journal
  pub opened : tells → (T : Tables) → Recovers (image old) T → ((journal ≡ []) × (given ≡ [])) ⊎ (T ≡ found)
  pub any_moment : now new < last_count → EachStop now image can_leave left_at old new ((status ≡ DiskFault) × (journal ≡ []) × (given ≡ []))
      (λ m c. (T : Tables) → Recovers (image old) T → LeavesFirst T journal m c)
  pub at_end : status ≡ Done → tells → (T : Tables) → Recovers (image old) T → (c : Image) → can_leave new c → Recovers c (fold_journal T journal)
