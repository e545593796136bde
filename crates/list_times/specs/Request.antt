-- What the program's arguments ask for. Document 01 has standard input alone, which no argument stands for too; the
-- rest is in DECISIONS.
use Rattle.std.specs.Prelude.{ℕ, Bool, true, false, cond, ◌&&◌, ◌||◌, List, [], ◌∷◌, eqb, ltb, length, get_or}
use Rattle.clock_time.specs.Lists.{ascii}
use Rattle.list_times.specs.declared.request.Request.{Request}
use Rattle.list_times.specs.declared.request.Request.TheVariants.{ListInput, ListFile, Help, Version, Misused}

-- two texts are the same
unfoldable pub is_same : List ℕ → List ℕ → Bool
is_same [] [] = true
is_same [] (b ∷ t) = false
is_same (a ∷ s) [] = false
is_same (a ∷ s) (b ∷ t) = eqb a b && is_same s t

-- a text that names no file here: the empty one, and one that begins with a dash (45)
unfoldable pub names_none : List ℕ → Bool
names_none s = eqb (length s) 0 || eqb (get_or s 0 0) 45

-- what an argument asks for, by the first of these that holds: it is a dash, --help, --version, or names no file; else
-- it names one
unfoldable pub choose : Bool → Bool → Bool → Bool → Request
choose is_dash is_help is_version is_none =
    cond is_dash ListInput (cond is_help Help (cond is_version Version (cond is_none Misused ListFile)))

-- what one argument asks for; a dash alone is standard input
unfoldable pub read_argument : List ℕ → Request
read_argument s =
    choose (is_same s (ascii "-")) (is_same s (ascii "--help")) (is_same s (ascii "--version")) (names_none s)

-- what the arguments ask for: `count` is how many there are, the program's name among them, and s is the first after
-- the name
unfoldable pub read_request : ℕ → List ℕ → Request
read_request count s = cond (ltb count 2) ListInput (cond (ltb 2 count) Misused (read_argument s))
