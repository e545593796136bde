-- The Trimble string in words, with no function of its reader in them.
use Rattle.std.specs.Prelude.{◌≡◌, ℕ, zero, suc, ◌+◌, ◌*◌, ◌/◌, ◌%◌, ◌^◌, ◌<◌, ◌≤◌, false, List, [], ◌∷◌, ◌++◌, pos, slice_index, slice_index_or}
use Rattle.clock_time.specs.Lists.{ascii}
use Rattle.gregorian.specs.Rules.{GregorianDate}
use Rattle.calendar.specs.Days.{OnWeekday}
use Rattle.layout.specs.Picture.{Place, printable, free, drawn}
use Rattle.layout.specs.Says.{digit_at, two_digits_at, Stands}
use Rattle.trimble_sv6.specs.declared.TrimbleTime.{TrimbleTime}

-- "`>RTM`, hh 4, mm 6, ss 8, ddd 10 (milliseconds), DD 13, MM 15, YYYY 17, oo 21, d 23, nn 24, v 26, rrrrr 27, `;*` 32,
-- xx 34, `<` 36. All digits but v, xx and rrrrr; rrrrr is any bytes from 32 to 126" (02, T-01); in the order of
-- ">RTMhhmmssdddDDMMYYYYoodnnvrrrrr;*xx<" (001), with DD, MM and YYYY in small letters, since a capital letter stands
-- for itself in `drawn`
abbrev pub trimble_picture : List Place
trimble_picture =
    drawn ">RTMhhmmssdddddmmyyyyoodnn" ++ (free ∷ [])
    ++ (printable ∷ printable ∷ printable ∷ printable ∷ printable ∷ drawn ";*")
    ++ (free ∷ free ∷ drawn "<")

-- the number of the three digits from a place on
abbrev pub three_digits_at : List ℕ → ℕ → ℕ
three_digits_at s i = 100 * digit_at s i + two_digits_at s (suc i)

-- the number of the four digits from a place on
abbrev pub four_digits_at : List ℕ → ℕ → ℕ
four_digits_at s i = 100 * two_digits_at s i + two_digits_at s (suc (suc i))

-- ---- the check sum
-- the bit k of a number, 1 if it is set, else 0
abbrev pub bit_at : ℕ → ℕ → ℕ
bit_at k n = n / 2 ^ k % 2

-- how many of the n bytes from a place on have the bit k set
abbrev pub bit_count : ℕ → ℕ → ℕ → List ℕ → ℕ
bit_count k at zero s = 0
bit_count k at (suc n) s = bit_at k (slice_index s at) + bit_count k (suc at) n s

-- "the exclusive or of places 0 to 33" (02, T-01) is the byte x: a bit of it is set exactly if an odd number of these
-- 34 bytes has it set
pub record ExclusiveOr (s : List ℕ) (x : ℕ) : Type 0 where
  pub byte : x < 256
  pub bits : (k : ℕ) → k < 8 → bit_at k x ≡ bit_count k 0 34 s % 2

-- the byte of a capital hex digit
abbrev pub capital_hex : ℕ → ℕ
capital_hex n = slice_index (ascii "0123456789ABCDEF") n

-- "xx is two capital hex digits of the exclusive or of places 0 to 33."; "xx 34" (02, T-01); otherwise 24: "the sum is
-- wrong or no hex"
pub record SumRules (s : List ℕ) : Type 0 where
  pub sum : ℕ
  pub exclusive_or : ExclusiveOr s sum
  pub first : slice_index_or s 34 0 ≡ capital_hex (sum / 16)
  pub second : slice_index_or s 35 0 ≡ capital_hex (sum % 16)

-- "years 1970 to 2069, else 5"; "YYYY 17" (02, T-01)
pub record YearRules (s : List ℕ) : Type 0 where
  pub least : 1970 ≤ four_digits_at s 17
  pub most : four_digits_at s 17 ≤ 2069

-- the rules that only this format has: its check sum, else 24; v, else 25: "v is not `1`"; "v 26"; and its years, else
-- 5 (02, T-01)
pub record RulesTrimble (s : List ℕ) : Type 0 where
  pub check_sum : SumRules s
  pub valid : Stands s 26 "1"
  pub years : YearRules s

-- ---- the fields
-- "then every field, offset and flag is the one those rules give" (demand 2): the string s says the time and
-- milliseconds g, by the sentences at its fields (02, T-01). "rrrrr is any bytes from 32 to 126 [..]; it, oo, d and nn
-- are ignored." (02, T-01)
pub record SaysTrimble (s : List ℕ) (g : TrimbleTime) : Type 0 where
  -- "hh 4, mm 6, ss 8, ddd 10 (milliseconds)"; "The milliseconds are handed over beside the reading."
  pub hour : g.time.hour ≡ two_digits_at s 4
  pub minute : g.time.minute ≡ two_digits_at s 6
  pub second : g.time.second ≡ two_digits_at s 8
  pub milliseconds : g.milliseconds ≡ three_digits_at s 10
  -- "DD 13, MM 15, YYYY 17"
  pub day : g.time.day ≡ two_digits_at s 13
  pub month : g.time.month ≡ two_digits_at s 15
  pub year : g.time.year ≡ four_digits_at s 17
  -- "weekday is worked out"; if there is no such date, which is refused with 5, it is 0, so that a string of the years
  -- from 1970 on says one clock time and no other
  pub weekday : let t = g.time in
      GregorianDate t.year t.month t.day → OnWeekday t.year t.month t.day t.weekday
  pub no_date : let t = g.time in (GregorianDate t.year t.month t.day → ⊥) → t.weekday ≡ 0
  -- "Offset is 0, no flags"
  pub offset : g.time.utc_offset ≡ pos 0
  pub unsynchronised : g.time.unsynchronised ≡ false
  pub unverified : g.time.unverified ≡ false
  pub summer_time : g.time.summer_time ≡ false
  pub change_coming : g.time.dst_change_announced ≡ false
  pub leap_second_coming : g.time.leap_second_announced ≡ false
  pub antenna : g.time.alternate_antenna ≡ false
