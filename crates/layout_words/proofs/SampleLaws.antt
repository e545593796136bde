-- Bytes held to a sample: the test of the word is that of its bytes.
use Rattle.std.proofs.Common.{◌≡◌, ℕ, ◌<◌, Bool, true, ◌&&◌, List, [], ◌∷◌, map, length, refl, ap, ◌∙◌}
use Rattle.clock_time.specs.Lists.{slice}
use Rattle.layout.specs.Layout.{sample_place, fits_from}
use Rattle.layout_words.specs.Words.{word}
use Rattle.layout_words.proofs.ByteLaws.{more_of, high_of, sample_test_lem, high_small, no_carry}
use Rattle.layout_words.proofs.WordLaws.{Bytes, EachByte}
use Rattle.layout_words.proofs.TestLaws.{ByteTest, passes_all, passes_all_lem, word_fits}

-- the bytes of a sample
abbrev Byte : Type 0
Byte = (p : ℕ) × (p < 256)

abbrev pub bytes_of : (s : List ℕ) → EachByte s → List Byte
bytes_of [] h = []
bytes_of (b ∷ s) h = (b, h.0) ∷ bytes_of s h.1

-- the numbers that the code tests a byte with, by that of a sample
abbrev pub sample_test : Byte → ByteTest
sample_test p =
    record {
      byte = p.0;
      more = more_of p.0;
      high = high_of p.0;
      byte_small = p.1;
      high_small = high_small p.0;
      no_carry = no_carry p.0;
    }

-- as many bytes as a sample has, held to it
pub test_word : (ps : List Byte) (s : List ℕ) (at : ℕ) → Bytes s
    → passes_all (map sample_test ps) (word (slice at (length ps) s))
    ≡ fits_from true at (map (λ p. sample_place p.0) ps) s
unfolding word
test_word =
    word_fits (λ p. sample_place p.0) (λ ps. passes_all (map sample_test ps)) refl
    (λ p ps w b h. passes_all_lem (sample_test p) (map sample_test ps) w b h
    ∙ ap (λ (t : Bool). t && passes_all (map sample_test ps) w) (sample_test_lem p.0 b p.1 h))
