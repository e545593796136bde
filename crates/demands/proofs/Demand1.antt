-- Demand 1: "Any bytes, any marks, any place, any lent memory: each public entry ends with its answer or with one
-- numbered refusal, in the order document 01 gives. A refusal hands back its number and nothing else, and changes no
-- byte or number of the memory we lent." That a function ends, on any input, is part of every function's proof. The
-- functions in src/ have these statements as their contracts.
use Prim.Native.Nat.{ℕ}
use mathlib.Core.Path.{◌≡◌, refl}
use mathlib.Core.Bool.{Bool, not}
use mathlib.Core.List.{List, [], ◌∷◌, ◌++◌}
use lib.Dec.{leb, ltb}
use lib.ListN.{length}
use lib.IntN.{ℤ}
use Rattle.clock_time.specs.Errors.{Check, given, checked}
use Rattle.clock_time.specs.Called.{called, called_answer, called_memory, called_both}
use Rattle.clock_time.specs.Writing.{writing}
use Rattle.clock_time.specs.FieldRanges.{time_ranges, gps_ranges}
use Rattle.clock_time.specs.declared.ClockTime.{ClockTime}
use Rattle.clock_time.proofs.OrderLaws.{positive_append}
use Rattle.gregorian.specs.Date.{supported_date, first_year, last_year}
use Rattle.calendar.specs.Date.{day_number, weekday_of}
use Rattle.calendar.specs.UnixTime.{is_reading, instant_of, unix_time}
use Rattle.layout.specs.Text.{clock_checks, text_checks, read_text}
use Rattle.layout.proofs.LinesLaws as text_lines_lem
use Rattle.meinberg_standard.specs.Standard.{standard, standard_fields, read_standard, write_standard}
use Rattle.meinberg_standard.specs.Accepts.{AcceptsStandard}
use Rattle.meinberg_standard.proofs.SaysLaws as standard_words
use Rattle.meinberg_standard.proofs.Theorems as standards
use Rattle.meinberg_pzf.specs.Pzf.{pzf, pzf_fields, read_pzf, write_pzf}
use Rattle.meinberg_pzf.specs.Accepts.{AcceptsPzf}
use Rattle.meinberg_pzf.proofs.SaysLaws as pzf_words
use Rattle.meinberg_pzf.proofs.Theorems as pzfs
use Rattle.meinberg_gps.specs.Gps.{gps, gps_fields, read_gps, write_gps}
use Rattle.meinberg_gps.specs.declared.GpsTime.{GpsTime}
use Rattle.meinberg_gps.proofs.SaysLaws as gps_words
use Rattle.meinberg_gps.proofs.Theorems as gpss
use Rattle.elv_dcf7000.specs.Elv.{elv, elv_fields, read_elv, write_elv}
use Rattle.elv_dcf7000.proofs.SaysLaws as elv_words
use Rattle.elv_dcf7000.proofs.Theorems as elvs
use Rattle.dcf77.specs.Minute.{minute_checks, minute_fields, read_minute, write_minute}
use Rattle.dcf77.specs.declared.MinuteTime.{MinuteTime}
use Rattle.dcf77.proofs.LinesLaws as minute_lines_lem
use Rattle.dcf77.proofs.Theorems as minutes
use Rattle.meinberg_standard.specs.Lines.{standard_lines}
use Rattle.meinberg_pzf.specs.Lines.{pzf_lines}
use Rattle.meinberg_gps.specs.Lines.{gps_lines}
use Rattle.elv_dcf7000.specs.Lines.{elv_lines}
use Rattle.trimble_sv6.specs.Trimble.{read_trimble}
use Rattle.trimble_sv6.specs.Lines.{trimble_order, trimble_lines}
use Rattle.dcf77.specs.Lines.{minute_lines}
use Rattle.meinberg_gps.specs.Accepts.{AcceptsGps}
use Rattle.elv_dcf7000.specs.Accepts.{AcceptsElv}
use Rattle.dcf77.specs.Accepts.{AcceptsMinute}
use Rattle.meinberg_gps_position.specs.Position.{position_fault, position_of, read_position}
use Rattle.meinberg_gps_position.specs.Rules.{position_lines}
use Rattle.meinberg_gps_position.proofs.Theorems as positions
use Rattle.time_string.specs.Row.{text_order, kind_row}
use Rattle.time_string.specs.Kind.{kind_of, kind_number, read_as}
use Rattle.time_string.specs.declared.Kind.{Kind}
use Rattle.time_string.proofs.KindLaws.{kind_laws}
use Rattle.recording.specs.Recording.{rule, unfit, outcome_at, fill_outcomes, recorded, correction_checks, correct_mark}
use Rattle.listing_lines.specs.Line.{time_line, write_line}
use Rattle.listing_lines.specs.Totals.{totals_line, write_totals}
use Rattle.listing_lines.specs.declared.Totals.{Totals}
use Rattle.c_fields.specs.Ranges.{minute_ranges, fits, fits_all, time_from, gps_from, minute_from}
use Rattle.c_fields.specs.Ranges.{numbered, first_time_of, time_of, gps_of, minute_of}
use Rattle.c_writer.specs.Writers.{write_from, write_minute_from}
use Rattle.c_readings.specs.Strings.{kind_number_of, read_into, unix_time_of}
use Rattle.c_numbers.specs.Numbers.{put_answer}
use Rattle.c_readings.specs.Minutes.{read_minute_into}
use Rattle.c_readings.specs.Trimble.{read_trimble_into}
use Rattle.c_feed.specs.Feed.{FeedMemory, feed_into}
use Rattle.demands.specs.Refusals.{tests, RefusesInOrder, RefusesAndKeeps, CallRefusesAndKeeps}
use Rattle.demands.specs.Accepted.{AcceptsMinuteNumbers}
use Rattle.demands.specs.Lines.{own_numbers, minute_order, lines_as, kind_lines, writer_lines, outcome_lines}
use Rattle.dcf77_outcome.specs.Instant.{is_minute_number, outcome_instant, outcome_unix_time}
use Rattle.demands.specs.Lines.{fill_lines, correction_lines, instant_lines, date_lines, read_lines, write_lines}
use Rattle.demands.specs.Lines.{read_minute_lines, instant_lines_of, feed_lines, outcome_time_lines}
use Rattle.demands.specs.Trimble.{read_trimble_lines}
use Rattle.demands.proofs.KindLaws.{row_checks}
use Rattle.demands.proofs.Checks.{checks_as, reading_as, kind_checks, read_checks, read_minute_checks}
use Rattle.demands.proofs.OrderLaws.{ordered, by_tests, keeps, decided, agree_tests}
use Rattle.demands.proofs.OrderLaws.{from_answer, from_memory, from_both}
use Rattle.demands.proofs.WriterLaws.{settled, writer_keeps}
use Rattle.demands.proofs.NumbersLaws.{from_decided, minute_settled}
use Rattle.demands.proofs.ReaderLaws.{unknown_exactly}
use Rattle.demands.proofs.EntryLaws as entry
use Rattle.demands.proofs.AgreeLaws as agrees
use Rattle.demands.proofs.InstantLaws as instants
use Rattle.demands.proofs.TrimbleLaws as trimble

-- ---- strings
pub tell_kind : (s : List ℕ) → RefusesInOrder (kind_lines s) (1 ∷ []) (kind_of s)
tell_kind s =
    ordered (entry.told_kind s) (kind_checks s) (kind_lines s) (agrees.kind_agrees s) (kind_of s) (entry.kind_checks_lem s)

pub read_by_kind : (kind : Kind) (s : List ℕ)
    → RefusesInOrder (lines_as kind s) (text_order (own_numbers kind)) (read_as kind s)
unfolding read_as
read_by_kind kind s =
    let k = (kind_laws kind).row in
    rw (← (k.order s))
    (ordered (reading_as kind s) (checks_as kind s) (lines_as kind s) (k.agree s) (read_as kind s)
    (row_checks (kind_row kind) s))

pub read_standard_lem : (s : List ℕ) → RefusesInOrder (standard_lines s) (text_order []) (read_standard s)
unfolding read_standard read_text standard
read_standard_lem s =
    ordered (standard_fields s) (text_checks standard s) _ (text_lines_lem.agrees standard_words.in_words s) _ refl

pub read_pzf_lem : (s : List ℕ) → RefusesInOrder (pzf_lines s) (text_order []) (read_pzf s)
unfolding read_pzf read_text pzf
read_pzf_lem s = ordered (pzf_fields s) (text_checks pzf s) _ (text_lines_lem.agrees pzf_words.in_words s) _ refl

pub read_gps_lem : (s : List ℕ) → RefusesInOrder (gps_lines s) (text_order (8 ∷ 9 ∷ [])) (read_gps s)
unfolding read_gps read_text gps
read_gps_lem s = ordered (gps_fields s) (text_checks gps s) _ (text_lines_lem.agrees gps_words.in_words s) _ refl

pub read_elv_lem : (s : List ℕ) → RefusesInOrder (elv_lines s) (text_order []) (read_elv s)
unfolding read_elv read_text elv
read_elv_lem s = ordered (elv_fields s) (text_checks elv s) _ (text_lines_lem.agrees elv_words.in_words s) _ refl

pub read_trimble_lem : (s : List ℕ) → RefusesInOrder (trimble_lines s) trimble_order (read_trimble s)
read_trimble_lem s = trimble.read_ordered s

pub write_standard_lem : (t : ClockTime) (d : List ℕ) →
    RefusesAndKeeps (writer_lines (λ s. AcceptsStandard s t) d) (23 ∷ 20 ∷ []) d (write_standard t d)
write_standard_lem t d = writer_keeps (settled standards.faithful t d)

pub write_pzf_lem : (t : ClockTime) (d : List ℕ) →
    RefusesAndKeeps (writer_lines (λ s. AcceptsPzf s t) d) (23 ∷ 20 ∷ []) d (write_pzf t d)
write_pzf_lem t d = writer_keeps (settled pzfs.faithful t d)

pub write_gps_lem : (g : GpsTime) (d : List ℕ) →
    RefusesAndKeeps (writer_lines (λ s. AcceptsGps s g) d) (23 ∷ 20 ∷ []) d (write_gps g d)
write_gps_lem g d = writer_keeps (settled gpss.faithful g d)

pub write_elv_lem : (t : ClockTime) (d : List ℕ) →
    RefusesAndKeeps (writer_lines (λ s. AcceptsElv s t) d) (23 ∷ 20 ∷ []) d (write_elv t d)
write_elv_lem t d = writer_keeps (settled elvs.faithful t d)

-- ---- a DCF77 minute
pub read_minute_lem : (m : List ℕ) → RefusesInOrder (minute_lines m) minute_order (read_minute m)
unfolding read_minute minute_lines
read_minute_lem m = ordered (minute_fields m) (minute_checks m) _ (minute_lines_lem.agrees m) _ refl

pub write_minute_lem : (a : MinuteTime) (d : List ℕ) →
    RefusesAndKeeps (writer_lines (λ m. AcceptsMinute m a) d) (23 ∷ 20 ∷ []) d (write_minute a d)
write_minute_lem a d = writer_keeps (settled minutes.faithful a d)

-- ---- a recording, its outcomes, and the correction of a mark
pub outcome_at_lem : (marks : List ℕ) (place : ℕ) →
    RefusesInOrder (outcome_lines marks place) (20 ∷ 21 ∷ []) (outcome_at marks place)
unfolding outcome_at
outcome_at_lem marks place =
    ordered (rule marks place) (given 20 (ltb 100000 (length marks)) ∷ given 21 (leb (length marks) place) ∷ []) _
    (agrees.outcome_agrees marks place) _ refl

pub outcome_unix_time_lem : (n : ℕ) → RefusesInOrder (outcome_time_lines n) (23 ∷ []) (outcome_unix_time n)
unfolding outcome_unix_time
outcome_unix_time_lem n =
    ordered (outcome_instant n) (given 23 (not (is_minute_number n)) ∷ []) _ (agrees.outcome_time_agrees n) _ refl

pub fill_outcomes_lem : (marks outcomes : List ℕ) →
    RefusesAndKeeps (fill_lines marks outcomes) (20 ∷ []) outcomes (fill_outcomes marks outcomes)
unfolding fill_outcomes
fill_outcomes_lem marks outcomes =
    keeps
    (decided (given 20 (unfit (length marks) (length outcomes)) ∷ []) _ _ _ _ _ (agrees.fill_agrees marks outcomes)
    refl)

pub correct_mark_lem : (marks outcomes : List ℕ) (place mark : ℕ) →
    RefusesAndKeeps (correction_lines marks outcomes place mark) (20 ∷ 21 ∷ 22 ∷ []) (recorded marks outcomes)
    (correct_mark marks outcomes place mark)
unfolding correct_mark
correct_mark_lem marks outcomes place mark =
    keeps
    (decided (correction_checks marks outcomes place mark) _ _ _ _ _ (agrees.correction_agrees marks outcomes place mark)
    refl)

-- ---- the instant and dates
pub unix_time_lem : (t : ClockTime) → RefusesInOrder (instant_lines t) (23 ∷ []) (unix_time t)
unfolding unix_time
unix_time_lem t = ordered (instant_of t) (given 23 (not (is_reading t)) ∷ []) _ (agrees.instant_agrees t) _ refl

pub day_number_lem : (year month day : ℕ) → RefusesInOrder (date_lines year month day) (5 ∷ []) (day_number year month day)
unfolding day_number
day_number_lem year month day =
    ordered _ (given 5 (not (supported_date first_year last_year year month day)) ∷ []) _
    (agrees.date_agrees year month day) _ refl

pub weekday : (year month day : ℕ) → RefusesInOrder (date_lines year month day) (5 ∷ []) (weekday_of year month day)
unfolding weekday_of
weekday year month day =
    ordered _ (given 5 (not (supported_date first_year last_year year month day)) ∷ []) _
    (agrees.date_agrees year month day) _ refl

-- ---- from numbers
pub write_string : (n : ℕ) (z : List ℤ) (d : List ℕ) →
    RefusesAndKeeps (write_lines n z d) (1 ∷ 23 ∷ 20 ∷ []) d (write_from n z d)
write_string n z d = keeps (from_decided n z d)

pub write_marks : (z : List ℤ) (d : List ℕ) →
    RefusesAndKeeps (writer_lines (λ m. AcceptsMinuteNumbers m z) d) (23 ∷ 20 ∷ []) d (write_minute_from z d)
write_marks z d = writer_keeps (minute_settled z d)

-- ---- the position of a GPS string
pub read_position_lem : (s : List ℕ) → RefusesInOrder (position_lines s) (9 ∷ []) (read_position s)
unfolding read_position
read_position_lem s = ordered (position_of s) (given 9 (position_fault s) ∷ []) _ (positions.agrees s) _ refl

-- ---- from C: the status is 0 or the number of the refusal, which leaves all that was lent
pub c_kind : (old : ℕ) (s : List ℕ) → CallRefusesAndKeeps (kind_lines s) (1 ∷ []) old (called_answer old (kind_number_of s))
c_kind old s =
    from_answer _ _ refl old (kind_number_of s)
    (ordered _ (kind_checks s) (kind_lines s) (agrees.kind_agrees s) (kind_number_of s) (entry.kind_number_checks s))

pub c_read : (kind : Kind) (s : List ℕ) (fields : List ℤ) →
    CallRefusesAndKeeps (read_lines kind s fields) (text_order (own_numbers kind) ++ (20 ∷ [])) fields
    (called_memory (read_into (kind_number kind) s fields))
c_read kind s fields =
    from_memory (read_lines kind s fields) _
    (positive_append (text_order (own_numbers kind)) (20 ∷ []) (kind_laws kind).row.above_0 refl) fields
    (read_into (kind_number kind) s fields)
    (rw (← (agrees.read_numbers kind s fields))
    (keeps
    (decided (read_checks kind s fields) _ _ _ _ _ (agrees.read_agrees kind s fields)
    (entry.read_checks_lem kind s fields))))

-- "an unknown kind number from C gives 1" (01, Meinberg and ELV strings)
pub c_read_unknown : (n : ℕ) (s : List ℕ) (fields : List ℤ) → ((kind : Kind) → n ≡ kind_number kind → ⊥)
    → called_memory (read_into n s fields) ≡ called 1 fields
unfolding read_into put_answer
c_read_unknown n s fields none = rw (entry.read_unknown n s ((unknown_exactly n).1 none))

pub c_write : (n : ℕ) (z : List ℤ) (d : List ℕ) (old : ℕ) →
    CallRefusesAndKeeps (write_lines n z d) (1 ∷ 23 ∷ 20 ∷ []) (d, old) (called_both old (write_from n z d))
c_write n z d old = from_both _ _ refl d _ (write_string n z d) old

pub c_read_minute : (m : List ℕ) (fields : List ℤ) →
    CallRefusesAndKeeps (read_minute_lines m fields) (minute_order ++ (20 ∷ [])) fields
    (called_memory (read_minute_into m fields))
unfolding minute_lines
c_read_minute m fields =
    from_memory _ _ refl fields _
    (keeps
    (decided (read_minute_checks m fields) _ _ _ _ _ (agrees.read_minute_agrees m fields)
    (entry.read_minute_checks_lem m fields)))

pub c_read_trimble : (s : List ℕ) (fields : List ℤ) →
    CallRefusesAndKeeps (read_trimble_lines s fields) (trimble_order ++ (20 ∷ [])) fields
    (called_memory (read_trimble_into s fields))
c_read_trimble s fields = from_memory _ _ refl fields (read_trimble_into s fields) (keeps (trimble.read_decided s fields))

pub c_write_minute : (z : List ℤ) (d : List ℕ) (old : ℕ) →
    CallRefusesAndKeeps (writer_lines (λ m. AcceptsMinuteNumbers m z) d) (23 ∷ 20 ∷ []) (d, old)
    (called_both old (write_minute_from z d))
c_write_minute z d old = from_both _ _ refl d _ (write_marks z d) old

pub c_unix_time : (old : ℤ) (z : List ℤ) →
    CallRefusesAndKeeps (instant_lines_of z) (23 ∷ []) old (called_answer old (unix_time_of z))
c_unix_time old z =
    from_answer _ _ refl old (unix_time_of z)
    (ordered (instant_of (time_from z)) (given 23 (not (instants.of_valid z)) ∷ []) (instant_lines_of z)
    (instants.numbers_agree z) (unix_time_of z) (instants.numbers_checks z))

pub c_outcome_at : (old : ℕ) (marks : List ℕ) (place : ℕ) →
    CallRefusesAndKeeps (outcome_lines marks place) (20 ∷ 21 ∷ []) old (called_answer old (outcome_at marks place))
c_outcome_at old marks place = from_answer _ _ refl old _ (outcome_at_lem marks place)

pub c_outcome_unix_time : (old : ℤ) (n : ℕ) →
    CallRefusesAndKeeps (outcome_time_lines n) (23 ∷ []) old (called_answer old (outcome_unix_time n))
c_outcome_unix_time old n = from_answer _ _ refl old _ (outcome_unix_time_lem n)

pub c_fill_outcomes : (marks outcomes : List ℕ) →
    CallRefusesAndKeeps (fill_lines marks outcomes) (20 ∷ []) outcomes (called_memory (fill_outcomes marks outcomes))
c_fill_outcomes marks outcomes = from_memory _ _ refl outcomes _ (fill_outcomes_lem marks outcomes)

pub c_correct_mark : (marks outcomes : List ℕ) (place mark old : ℕ) →
    CallRefusesAndKeeps (correction_lines marks outcomes place mark) (20 ∷ 21 ∷ 22 ∷ []) (recorded marks outcomes, old)
    (called_both old (correct_mark marks outcomes place mark))
c_correct_mark marks outcomes place mark old =
    from_both _ _ refl (recorded marks outcomes) _ (correct_mark_lem marks outcomes place mark) old

pub feed : (old : FeedMemory) (s : List ℕ) (limit : ℕ) →
    RefusesAndKeeps (feed_lines old.state) (20 ∷ []) old (feed_into old s limit)
unfolding feed_into
feed old s limit =
    keeps (decided (given 20 (ltb (length old.state) 68) ∷ []) _ _ _ tt _ (agrees.feed_agrees old.state) refl)

pub c_feed : (old : FeedMemory) (s : List ℕ) (limit : ℕ) →
    CallRefusesAndKeeps (feed_lines old.state) (20 ∷ []) old (called_memory (feed_into old s limit))
c_feed old s limit = from_memory _ _ refl old (feed_into old s limit) (feed old s limit)

-- ---- functions that no user calls, but that refuse: by their own tests. The feed, `list` and the tests of a date, a
-- time or a byte refuse nothing: their answers have no case for it.
pub check_clock : (supported : Bool) (t : ClockTime) (mismatch : Bool) → let ks = clock_checks supported t mismatch in
    RefusesInOrder (tests ks) (5 ∷ 6 ∷ 7 ∷ []) (checked ks t)
unfolding clock_checks
check_clock supported t mismatch = by_tests t (clock_checks supported t mismatch) _ refl

pub time_of_lem : (z : List ℤ) →
    RefusesInOrder (tests (given 23 (not (fits_all time_ranges z)) ∷ [])) (23 ∷ []) (time_of z)
unfolding numbered
time_of_lem z = by_tests (time_from z) (given 23 (not (fits_all time_ranges z)) ∷ []) _ refl

pub first_time_of_lem : (z : List ℤ) →
    RefusesInOrder (tests (given 23 (not (fits time_ranges z)) ∷ [])) (23 ∷ []) (first_time_of z)
unfolding numbered
first_time_of_lem z = by_tests (time_from z) (given 23 (not (fits time_ranges z)) ∷ []) _ refl

pub gps_of_lem : (z : List ℤ) → RefusesInOrder (tests (given 23 (not (fits_all gps_ranges z)) ∷ [])) (23 ∷ []) (gps_of z)
unfolding numbered
gps_of_lem z = by_tests (gps_from z) (given 23 (not (fits_all gps_ranges z)) ∷ []) _ refl

pub minute_of_lem : (z : List ℤ) →
    RefusesInOrder (tests (given 23 (not (fits_all minute_ranges z)) ∷ [])) (23 ∷ []) (minute_of z)
unfolding numbered
minute_of_lem z = by_tests (minute_from z) (given 23 (not (fits_all minute_ranges z)) ∷ []) _ refl

-- a writer's tests, with what they are made of: that bytes stand for what is to be written, and that there is room
module _ (stand : Bool) (bytes d : List ℕ) where
  pub write_bytes :
      RefusesAndKeeps (tests (given 23 (not stand) ∷ given 20 (ltb (length d) (length bytes)) ∷ [])) (23 ∷ 20 ∷ []) d
      (writing stand bytes d)
  unfolding writing
  write_bytes =
      keeps
      (decided lines _ _ _ _ _ (agree_tests lines) refl)
    where
      lines : List Check
      lines = given 23 (not stand) ∷ given 20 (ltb (length d) (length bytes)) ∷ []

pub write_line_lem : (t : ClockTime) (d : List ℕ) →
    RefusesAndKeeps (tests (given 23 (not (is_reading t)) ∷ given 20 (ltb (length d) (length (time_line t))) ∷ []))
    (23 ∷ 20 ∷ []) d (write_line t d)
unfolding write_line
write_line_lem t d = write_bytes _ _ d

pub write_totals_lem : (t : Totals) (d : List ℕ) →
    RefusesAndKeeps (tests (given 20 (ltb (length d) (length (totals_line t))) ∷ [])) (20 ∷ []) d (write_totals t d)
unfolding write_totals writing
write_totals_lem t d = keeps (decided room _ _ _ _ _ (agree_tests room) refl)
  where
    room : List Check
    room = given 20 (ltb (length d) (length (totals_line t))) ∷ []
