-- What the statuses of a command leave open.
use Rattle.std.proofs.Common.{◌≡◌, ◌∙◌, refl, sym, ap, subst, inl, inr, ℕ, true, false, List, [], ◌∷◌, ◌++◌}
use Rattle.ids_base.specs.declared.status.Place.{Place}
use Rattle.ids_base.specs.declared.status.Why.{Why}
use Rattle.ids_base.specs.declared.status.Why.TheVariants.{Wrong}
use Rattle.ids_base.specs.declared.status.Status.{Status}
use Rattle.ids_base.specs.declared.status.Status.TheVariants.{Done, BadWords, BadScript, DiskFault, Memory, SinkFault, SourceFault, TooLong, NotFormatted, Damaged, AlreadyFormatted, TooSmall, LogFull}
use Rattle.sql_reader.specs.Lines.{AreLines, InGrammar, IsBadAt}
use Rattle.sql_reader.specs.Grammar.{IsLine}
use Rattle.ids_server.specs.Serving.{UnlessUnread, IsToldBad, IsDoneBut, has_read, has_checked, is_of_script, is_of_session, is_of_run, is_of_init, is_before_disk, is_of_refused_disk}

-- a session comes to its end once the disk was opened
pub sessions_look : (s : Status) → is_of_session s ≡ true → is_before_disk s ≡ false
sessions_look Done own = refl
sessions_look BadWords own = cc
sessions_look (BadScript byte why) own = cc
sessions_look DiskFault own = refl
sessions_look Memory own = refl
sessions_look SinkFault own = refl
sessions_look SourceFault own = cc
sessions_look TooLong own = cc
sessions_look NotFormatted own = refl
sessions_look (Damaged place) own = refl
sessions_look AlreadyFormatted own = refl
sessions_look (TooSmall pages needed) own = refl
sessions_look LogFull own = refl

pub sessions_accept : (s : Status) → is_of_session s ≡ true → is_of_refused_disk s ≡ false
sessions_accept Done own = refl
sessions_accept BadWords own = refl
sessions_accept (BadScript byte why) own = refl
sessions_accept DiskFault own = refl
sessions_accept Memory own = refl
sessions_accept SinkFault own = refl
sessions_accept SourceFault own = refl
sessions_accept TooLong own = refl
sessions_accept NotFormatted own = cc
sessions_accept (Damaged place) own = cc
sessions_accept AlreadyFormatted own = cc
sessions_accept (TooSmall pages needed) own = refl
sessions_accept LogFull own = refl

-- and its script was good
pub sessions_read : (s : Status) → is_of_session s ≡ true → (byte : ℕ) (why : Why) → ¬ (s ≡ BadScript byte why)
sessions_read s own byte why is =
    let never : is_of_session (BadScript byte why) ≡ true = ap is_of_session (sym is) ∙ own in
    cc

-- what a script can have, the command that runs it can
pub scripts_are_run : (s : Status) → is_of_script s ≡ true → is_of_run s ≡ true
scripts_are_run Done own = refl
scripts_are_run BadWords own = cc
scripts_are_run (BadScript byte why) own = refl
scripts_are_run DiskFault own = refl
scripts_are_run Memory own = refl
scripts_are_run SinkFault own = refl
scripts_are_run SourceFault own = refl
scripts_are_run TooLong own = refl
scripts_are_run NotFormatted own = refl
scripts_are_run (Damaged place) own = refl
scripts_are_run AlreadyFormatted own = cc
scripts_are_run (TooSmall pages needed) own = cc
scripts_are_run LogFull own = refl

-- where it is not one of these causes, a run is done, but for memory and the log
pub run_is_done : (s : Status) → is_of_run s ≡ true → ((byte : ℕ) (why : Why) → ¬ (s ≡ BadScript byte why)) → ¬ (s ≡ DiskFault) → ¬ (s ≡ SinkFault) → ¬ (s ≡ SourceFault) → ¬ (s ≡ TooLong)
    → ¬ (s ≡ NotFormatted) → ((place : Place) → ¬ (s ≡ Damaged place)) → IsDoneBut s
run_is_done Done own bad disk sink source long unformatted damaged = inl refl
run_is_done BadWords own bad disk sink source long unformatted damaged = cc
run_is_done (BadScript byte why) own bad disk sink source long unformatted damaged = absurd (bad byte why refl)
run_is_done DiskFault own bad disk sink source long unformatted damaged = absurd (disk refl)
run_is_done Memory own bad disk sink source long unformatted damaged = inr (inl refl)
run_is_done SinkFault own bad disk sink source long unformatted damaged = absurd (sink refl)
run_is_done SourceFault own bad disk sink source long unformatted damaged = absurd (source refl)
run_is_done TooLong own bad disk sink source long unformatted damaged = absurd (long refl)
run_is_done NotFormatted own bad disk sink source long unformatted damaged = absurd (unformatted refl)
run_is_done (Damaged place) own bad disk sink source long unformatted damaged = absurd (damaged place refl)
run_is_done AlreadyFormatted own bad disk sink source long unformatted damaged = cc
run_is_done (TooSmall pages needed) own bad disk sink source long unformatted damaged = cc
run_is_done LogFull own bad disk sink source long unformatted damaged = inr (inr refl)

pub init_is_done : (s : Status) → is_of_init s ≡ true → ¬ (s ≡ DiskFault) → ¬ (s ≡ AlreadyFormatted) → s ≡ Done
init_is_done Done own disk already = refl
init_is_done BadWords own disk already = cc
init_is_done (BadScript byte why) own disk already = cc
init_is_done DiskFault own disk already = absurd (disk refl)
init_is_done Memory own disk already = cc
init_is_done SinkFault own disk already = cc
init_is_done SourceFault own disk already = cc
init_is_done TooLong own disk already = cc
init_is_done NotFormatted own disk already = cc
init_is_done (Damaged place) own disk already = cc
init_is_done AlreadyFormatted own disk already = absurd (already refl)
init_is_done (TooSmall pages needed) own disk already = cc
init_is_done LogFull own disk already = cc

-- what is not read is too long
pub unread_is_long : (s : Status) → is_of_run s ≡ true → ¬ (has_read s ≡ true) → UnlessUnread s (s ≡ TooLong)
unread_is_long Done own unread = absurd (unread refl)
unread_is_long BadWords own unread = cc
unread_is_long (BadScript byte why) own unread = absurd (unread refl)
unread_is_long DiskFault own unread = absurd (unread refl)
unread_is_long Memory own unread = inr (inr refl)
unread_is_long SinkFault own unread = absurd (unread refl)
unread_is_long SourceFault own unread = inr (inl refl)
unread_is_long TooLong own unread = inl refl
unread_is_long NotFormatted own unread = absurd (unread refl)
unread_is_long (Damaged place) own unread = absurd (unread refl)
unread_is_long AlreadyFormatted own unread = cc
unread_is_long (TooSmall pages needed) own unread = cc
unread_is_long LogFull own unread = absurd (unread refl)

-- what is read and not run has a bad line
pub unchecked_is_bad : (s : Status) (bytes : List ℕ) → is_of_run s ≡ true → ¬ (s ≡ TooLong) → ¬ (has_checked s ≡ true)
    → ((byte : ℕ) (why : Why) → s ≡ BadScript byte why → IsBadAt bytes byte × (why ≡ Wrong)) → UnlessUnread s (IsToldBad bytes s)
unchecked_is_bad Done bytes own short unchecked bad = absurd (unchecked refl)
unchecked_is_bad BadWords bytes own short unchecked bad = cc
unchecked_is_bad (BadScript byte why) bytes own short unchecked bad =
    let at = bad byte why refl in
    inl (byte, at.0, ap (BadScript byte) at.1)
unchecked_is_bad DiskFault bytes own short unchecked bad = absurd (unchecked refl)
unchecked_is_bad Memory bytes own short unchecked bad = inr (inr refl)
unchecked_is_bad SinkFault bytes own short unchecked bad = absurd (unchecked refl)
unchecked_is_bad SourceFault bytes own short unchecked bad = inr (inl refl)
unchecked_is_bad TooLong bytes own short unchecked bad = absurd (short refl)
unchecked_is_bad NotFormatted bytes own short unchecked bad = absurd (unchecked refl)
unchecked_is_bad (Damaged place) bytes own short unchecked bad = absurd (unchecked refl)
unchecked_is_bad AlreadyFormatted bytes own short unchecked bad = cc
unchecked_is_bad (TooSmall pages needed) bytes own short unchecked bad = cc
unchecked_is_bad LogFull bytes own short unchecked bad = absurd (unchecked refl)

-- a line behind others is one
line_behind : (before : List (List ℕ)) (bad : List ℕ) (after : List (List ℕ)) → AreLines (before ++ bad ∷ after) → IsLine bad
line_behind [] bad after lines = lines.0
line_behind (l ∷ ls) bad after lines = line_behind ls bad after lines.1

-- a script has no bad line
pub good_is_not_bad : (bytes : List ℕ) (byte : ℕ) → InGrammar bytes → ¬ IsBadAt bytes byte
good_is_not_bad bytes byte good at = at.5 (line_behind at.0 at.1 at.2 (subst AreLines at.3 good))
