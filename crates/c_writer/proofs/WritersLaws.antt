-- Laws of writing by kind numbers.
use Prim.Native.Nat.{ℕ, ◌≤◌}
use native.Mathlib.Decide.{ℕ_discrete}
use native.Mathlib.Omega.{arith}
use mathlib.Core.Path.{◌≡◌}
use mathlib.Core.List.{List}
use lib.IntN.{ℤ}
use Rattle.clock_time.specs.Errors.{refused}
use Rattle.clock_time.specs.Exit.{exit}
use lib.ListN.{length}
use Rattle.meinberg_standard.specs.Standard.{write_standard}
use Rattle.meinberg_pzf.specs.Pzf.{write_pzf}
use Rattle.elv_dcf7000.specs.Elv.{write_elv}
use Rattle.time_string.specs.Row.{all_kinds}
use Rattle.time_string.specs.Kind.{kind_named}
use Rattle.time_string.proofs.KindLaws.{kind_unknown}
use Rattle.c_writer.specs.Writers.{write_as, write_from, write_time, write_time_from}

module _ (n : ℕ) (z : List ℤ) (d : List ℕ) where
  pub write_unknown : length all_kinds ≤ n → write_from n z d ≡ exit (refused 1) d
  unfolding write_from
  write_unknown h = rw (kind_unknown n h)

  pub write_time_from_lem : n ≤ 3 → (n ≡ 2 → ⊥) → write_time_from n z d ≡ write_from n z d
  unfolding write_time_from write_time write_from kind_named write_as write_standard write_pzf write_elv
  write_time_from_lem h other = elim (ℕ_discrete n 0) [
    | yes zero ↦ rw zero
    | no above ↦ elim (ℕ_discrete n 1) [
      | yes one ↦ rw one
      | no two ↦ let three : n ≡ 3 = omega arith in rw three
    ]
  ]
