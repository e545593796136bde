-- Demand 2: "A string or a DCF77 minute is accepted exactly when the rules in document 01 hold, and then every field,
-- offset and flag is the one those rules give. Written back, an accepted reading gives the same bytes or marks. Given
-- room enough, a writer refuses a reading exactly when nothing acceptable in that format reads as it." The functions in
-- src/ have these statements as their contracts.
use Prim.Native.Nat.{ℕ, ◌≤◌}
use mathlib.Core.Path.{◌≡◌, sym, ap, ◌∙◌}
use mathlib.Core.List.{List, ◌++◌}
use lib.ListN.{length, take, drop}
use lib.IntN.{ℤ, pos, ◌*ℤ◌}
use lib.Seq.{take_at}
use Rattle.clock_time.specs.Called.{called, called_answer, called_memory, called_both}
use Rattle.clock_time.specs.Errors.{accepted}
use Rattle.clock_time.specs.declared.ClockTime.{ClockTime}
use Rattle.calendar.specs.Date.{day_number, weekday_of}
use Rattle.calendar.specs.UnixTime.{instant_of, unix_time}
use Rattle.calendar.proofs.RulesLaws.{valid_exactly}
use Rattle.calendar.proofs.Theorems as calendars
use Rattle.meinberg_standard.specs.Standard.{read_standard, write_standard}
use Rattle.meinberg_standard.specs.Accepts.{AcceptsStandard}
use Rattle.meinberg_standard.proofs.Theorems as standards
use Rattle.meinberg_pzf.specs.Pzf.{read_pzf, write_pzf}
use Rattle.meinberg_pzf.specs.Accepts.{AcceptsPzf}
use Rattle.meinberg_pzf.proofs.Theorems as pzfs
use Rattle.meinberg_gps.specs.Gps.{read_gps, write_gps}
use Rattle.meinberg_gps.specs.declared.GpsTime.{GpsTime}
use Rattle.meinberg_gps.proofs.Theorems as gpss
use Rattle.meinberg_gps_position.specs.Position.{read_position}
use Rattle.meinberg_gps_position.specs.Rules.{PositionRules, SaysPosition}
use Rattle.meinberg_gps_position.proofs.Theorems as positions
use Rattle.elv_dcf7000.specs.Elv.{read_elv, write_elv}
use Rattle.elv_dcf7000.proofs.Theorems as elvs
use Rattle.trimble_sv6.specs.Trimble.{read_trimble}
use Rattle.trimble_sv6.specs.Accepts.{AcceptsTrimble}
use Rattle.trimble_sv6.specs.declared.TrimbleTime.{TrimbleTime}
use Rattle.trimble_sv6.proofs.Theorems as trimbles
use Rattle.dcf77.specs.Minute.{read_minute, write_minute}
use Rattle.dcf77.specs.declared.MinuteTime.{MinuteTime}
use Rattle.dcf77.proofs.Theorems as minutes
use Rattle.meinberg_gps.specs.Accepts.{AcceptsGps}
use Rattle.elv_dcf7000.specs.Accepts.{AcceptsElv}
use Rattle.dcf77.specs.Accepts.{AcceptsMinute}
use Rattle.calendar.specs.Days.{DayAfter, OnWeekday}
use Rattle.time_string.specs.declared.Reading.{Reading}
use Rattle.time_string.specs.Row.{reading_time}
use Rattle.time_string.specs.Kind.{kind_of, kind_number, read_as}
use Rattle.time_string.specs.Accepted.{TellsKind, AcceptsAs}
use Rattle.time_string.specs.declared.Kind.{Kind}
use Rattle.time_string.proofs.KindLaws.{kind_laws}
use Rattle.c_numbers.specs.Numbers.{minute_numbers, trimble_numbers, minute_count}
use Rattle.c_writer.specs.Writers.{write_from, write_minute_from}
use Rattle.c_readings.specs.Strings.{kind_number_of, reading_numbers, read_into, unix_time_of}
use Rattle.c_readings.specs.Minutes.{read_minute_into}
use Rattle.c_readings.specs.Trimble.{read_trimble_into}
use Rattle.demands.specs.Accepted.{AcceptsNumbered, AcceptsNumbers, AcceptsMinuteNumbers}
use Rattle.demands.specs.Exactly.{ReadsExactly, WritesExactly, CallAnswersExactly, CallReadsExactly}
use Rattle.demands.specs.Exactly.{CallWritesExactly}
use Rattle.dcf77_outcome.specs.Instant.{outcome_unix_time}
use Rattle.demands.specs.Instant.{InstantOf, InstantOfNumbers, OutcomeInstant}
use Rattle.demands.specs.Lines.{number_count}
use Rattle.demands.proofs.KindLaws.{kind_exactly}
use Rattle.demands.proofs.ReaderLaws as reader
use Rattle.demands.proofs.WriterLaws.{settled, writes_exactly, call_writes_exactly}
use Rattle.demands.proofs.NumbersLaws as numbers
use Rattle.demands.proofs.InstantLaws as instants
use Rattle.demands.proofs.NeverLaws as never
use Rattle.demands.proofs.TrimbleLaws as trimble

-- ---- strings
pub tell_kind : (s : List ℕ) → ReadsExactly (TellsKind s) (kind_of s)
tell_kind = reader.tells_exactly

pub read_by_kind : (kind : Kind) (s : List ℕ) → ReadsExactly (AcceptsAs kind s) (read_as kind s)
unfolding read_as
read_by_kind kind = kind_exactly kind

-- what is accepted as a kind is told as that kind
pub tell_accepted : (kind : Kind) (s : List ℕ) (r : Reading) → AcceptsAs kind s r → kind_of s ≡ accepted kind
tell_accepted kind s r h = (kind_laws kind).told s ((kind_laws kind).accepted_told s r h)

pub read_standard_lem : (s : List ℕ) → ReadsExactly (AcceptsStandard s) (read_standard s)
read_standard_lem = (standards.faithful).reader.accepted_exactly

pub read_pzf_lem : (s : List ℕ) → ReadsExactly (AcceptsPzf s) (read_pzf s)
read_pzf_lem = (pzfs.faithful).reader.accepted_exactly

pub read_gps_lem : (s : List ℕ) → ReadsExactly (AcceptsGps s) (read_gps s)
read_gps_lem = (gpss.faithful).reader.accepted_exactly

pub read_elv_lem : (s : List ℕ) → ReadsExactly (AcceptsElv s) (read_elv s)
read_elv_lem = (elvs.faithful).reader.accepted_exactly

pub read_trimble_lem : (s : List ℕ) → ReadsExactly (AcceptsTrimble s) (read_trimble s)
read_trimble_lem = (trimbles.faithful).accepted_exactly

pub write_standard_lem : (t : ClockTime) (d : List ℕ) → WritesExactly (λ s. AcceptsStandard s t) d (write_standard t d)
write_standard_lem t d = writes_exactly (settled standards.faithful t d)

pub write_pzf_lem : (t : ClockTime) (d : List ℕ) → WritesExactly (λ s. AcceptsPzf s t) d (write_pzf t d)
write_pzf_lem t d = writes_exactly (settled pzfs.faithful t d)

pub write_gps_lem : (g : GpsTime) (d : List ℕ) → WritesExactly (λ s. AcceptsGps s g) d (write_gps g d)
write_gps_lem g d = writes_exactly (settled gpss.faithful g d)

pub write_elv_lem : (t : ClockTime) (d : List ℕ) → WritesExactly (λ s. AcceptsElv s t) d (write_elv t d)
write_elv_lem t d = writes_exactly (settled elvs.faithful t d)

-- ---- a DCF77 minute
pub read_minute_lem : (m : List ℕ) → ReadsExactly (AcceptsMinute m) (read_minute m)
read_minute_lem = (minutes.faithful).reader.accepted_exactly

pub write_minute_lem : (a : MinuteTime) (d : List ℕ) → WritesExactly (λ m. AcceptsMinute m a) d (write_minute a d)
write_minute_lem a d = writes_exactly (settled minutes.faithful a d)

-- ---- from numbers
pub write_string : (n : ℕ) (z : List ℤ) (d : List ℕ) → WritesExactly (λ s. AcceptsNumbers n s z) d (write_from n z d)
write_string = numbers.from_exactly

pub write_marks : (z : List ℤ) (d : List ℕ) → WritesExactly (λ m. AcceptsMinuteNumbers m z) d (write_minute_from z d)
write_marks z d = writes_exactly (numbers.minute_settled z d)

-- ---- the instant and dates
pub unix_time_lem : (t : ClockTime) → ReadsExactly (InstantOf t) (unix_time t)
unix_time_lem = instants.unix_time_exactly

pub day_number_lem : (year month day : ℕ)
    → ReadsExactly (λ n. DayAfter n year month day × (year ≤ 2069)) (day_number year month day)
day_number_lem = calendars.day_number_exactly

pub weekday : (year month day : ℕ)
    → ReadsExactly (λ w. OnWeekday year month day w × (year ≤ 2069)) (weekday_of year month day)
weekday = calendars.weekday_of_exactly

-- ---- the position of a GPS string
pub read_position_lem : (s : List ℕ) → ReadsExactly (λ p. PositionRules s × SaysPosition s p) (read_position s)
read_position_lem = positions.read_position_exactly

-- ---- from C
pub c_kind : (old : ℕ) (s : List ℕ)
    → CallAnswersExactly (λ n. (kind : Kind) × (TellsKind s kind × (n ≡ kind_number kind)))
    (called_answer old (kind_number_of s))
c_kind old s = reader.call_answers old (kind_number_of s) (never.kind_0 s) (reader.kind_number_exactly s)

pub c_read : (n : ℕ) (s : List ℕ) (fields : List ℤ)
    → CallReadsExactly reading_numbers (AcceptsNumbered n s) fields (called_memory (read_into n s fields))
unfolding read_into
c_read n s fields = reader.call_reads reading_numbers fields _ (never.read_0 n s) (reader.numbered_exactly n s)

pub c_write : (n : ℕ) (z : List ℤ) (d : List ℕ) (old : ℕ)
    → CallWritesExactly (λ s. AcceptsNumbers n s z) d (called_both old (write_from n z d))
c_write = numbers.call_from_exactly

pub c_read_minute : (m : List ℕ) (fields : List ℤ)
    → CallReadsExactly minute_numbers (AcceptsMinute m) fields (called_memory (read_minute_into m fields))
unfolding read_minute_into
c_read_minute m fields = reader.call_reads minute_numbers fields (read_minute m) (never.minute_0 m) (read_minute_lem m)

pub c_read_trimble : (s : List ℕ) (fields : List ℤ)
    → CallReadsExactly trimble_numbers (AcceptsTrimble s) fields (called_memory (read_trimble_into s fields))
unfolding read_trimble_into
c_read_trimble s fields = reader.call_reads trimble_numbers fields (read_trimble s) (trimble.read_0 s) (read_trimble_lem s)

pub c_write_minute : (z : List ℤ) (d : List ℕ) (old : ℕ)
    → CallWritesExactly (λ m. AcceptsMinuteNumbers m z) d (called_both old (write_minute_from z d))
c_write_minute z d old = call_writes_exactly (numbers.minute_settled z d) old

pub c_unix_time : (old : ℤ) (z : List ℤ) → CallAnswersExactly (InstantOfNumbers z) (called_answer old (unix_time_of z))
c_unix_time old z = reader.call_answers old (unix_time_of z) (never.instant_0 z) (instants.numbers_exactly z)

-- "Written back, an accepted reading gives the same bytes or marks.": the numbers that a call left, as many as the kind
-- has, are written as the string that was read
pub c_round_trip : (n : ℕ) (kind : Kind) → n ≡ kind_number kind
    → (s : List ℕ) (fields z : List ℤ) → called_memory (read_into n s fields) ≡ called 0 z
    → (d : List ℕ) (old : ℕ) → length s ≤ length d
    → called_both old (write_from n (take (number_count kind) z) d) ≡ called 0 (s ++ drop (length s) d, length s)
c_round_trip n kind e s fields z h d old room =
    let r = (c_read n s fields z).0 h in
    let k = r.1.0.0 in
    let same : k ≡ kind =
    cc (sym ((reader.named_exactly n k).1 r.1.0.1.0) ∙ (reader.named_exactly n kind).1 e) in
    let long = numbers.numbers_long k s r.0 r.1.0.1.1 ∙ ap number_count same in
    let first = ap (take (number_count kind)) r.1.2 ∙ take_at _ _ (number_count kind) long in
    (c_write n _ d old).write_read s (r.0, (r.1.0, first)) room

pub c_minute_round_trip : (m : List ℕ) (fields z : List ℤ) → called_memory (read_minute_into m fields) ≡ called 0 z
    → (d : List ℕ) (old : ℕ) → length m ≤ length d
    → called_both old (write_minute_from (take minute_count z) d) ≡ called 0 (m ++ drop (length m) d, length m)
c_minute_round_trip m fields z h d old room =
    let r = (c_read_minute m fields z).0 h in
    let first = ap (take minute_count) r.1.2 ∙ take_at _ _ _ (numbers.minute_numbers_long r.0) in
    (c_write_minute _ d old).write_read m (r.0, (r.1.0, first)) room

-- a number has the instant of the accepted minute that it is of, and no instant if it is of none
pub outcome_unix_time_lem : (n : ℕ) → ReadsExactly (OutcomeInstant n) (outcome_unix_time n)
outcome_unix_time_lem = instants.outcome_exactly

pub c_outcome_unix_time : (old : ℤ) (n : ℕ)
    → CallAnswersExactly (OutcomeInstant n) (called_answer old (outcome_unix_time n))
c_outcome_unix_time old n =
    reader.call_answers old (outcome_unix_time n) (never.outcome_time_0 n) (outcome_unix_time_lem n)

-- every string and every minute that is read has an instant, from C by the numbers that the call left
pub c_instant_read : (n : ℕ) (s : List ℕ) (fields z : List ℤ) → called_memory (read_into n s fields) ≡ called 0 z
    → (old : ℤ)
    → (r : Reading) × (AcceptsNumbered n s r
    × (called_answer old (unix_time_of z) ≡ called 0 (instant_of (reading_time r))))
c_instant_read n s fields z h old =
    let r = (c_read n s fields z).0 h in
    (r.0, (r.1.0, instants.instant_left n s r.0 r.1.0 z _ r.1.2 old))

pub c_trimble_instant_read : (s : List ℕ) (fields z : List ℤ) → called_memory (read_trimble_into s fields) ≡ called 0 z
    → (old : ℤ)
    → (g : TrimbleTime) × (AcceptsTrimble s g × (called_answer old (unix_time_of z) ≡ called 0 (instant_of g.time)))
c_trimble_instant_read s fields z h old =
    let r = (c_read_trimble s fields z).0 h in
    (r.0, (r.1.0, trimble.instant_left s r.0 r.1.0 z _ r.1.2 old))

-- "Second 60 has the instant of the second after it." (01, The reading): an accepted second 60 has an instant divisible
-- by 86,400, since that second starts a day in UTC
pub c_second_60 : (n : ℕ) (s : List ℕ) (r : Reading) → AcceptsNumbered n s r → (reading_time r).second ≡ 60
    → (z : ℤ) → InstantOf (reading_time r) z → (days : ℤ) × (z ≡ pos 86400 *ℤ days)
c_second_60 n s r h sixty z i =
    let midnight = calendars.second_60_midnight (reading_time r) ((valid_exactly _).1 i.0) sixty in
    (midnight.0, (instants.instant_exactly (reading_time r) i.0 z).1 i.1 ∙ midnight.1)
