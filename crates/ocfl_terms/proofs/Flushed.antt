-- What an output over a writer has committed.
use Rattle.std.proofs.Common.{◌≡◌, ℕ, ◌+◌, ◌-◌, ◌<◌, [], Option, Some, None, refl, sym, ◌∙◌, ap, arith, length, length-append, take, drop, take-append-drop, append-nil}
use Rattle.std.proofs.{KnownBytes.{Appends-nil}, lemmas.List.{length-take, take_all, take-append-le}}
use Rattle.std.specs.{Io.KnownBytes.{Appends, Keeps}, Option.{option_map}}
use Rattle.ocfl_tree.specs.Place.{Text}
use Rattle.ocfl_terms.specs.Output.{Grew, flushed}

pub grew_none : (s : Option Text) → Grew s s
grew_none s = ([], Appends-nil s)

pub grew_by : (old new : Option Text) (more : Text) → Appends old new more → Grew old new
grew_by old new more on = (more, on)

-- the writer took more, which is not flushed
pub kept_on : (old new : Option Text) (n m : ℕ) (more : Text) → Appends old new more → m ≡ n + length more → Keeps (option_map (flushed n) old) (option_map (flushed m) new)
kept_on None new n m more on is = tt
kept_on (Some xs) None n m more on is = absurd on
kept_on (Some xs) (Some ys) n m more on is =
    let long : length ys - m ≡ length xs - n = omega (arith, is, ap length on, length-append xs more) in
    ap (λ (k : ℕ). take k ys) long ∙ ap (take (length xs - n)) on ∙ take-append-le (length xs - n) xs more (omega arith)

-- a beginning of a text
pub kept_short : (old new : Option Text) (n m gone : ℕ) (text : Text) → Appends old new (take gone text) → gone < length text → m ≡ n + gone → Keeps (option_map (flushed n) old) (option_map (flushed m) new)
kept_short old new n m gone text on fewer is = kept_on old new n m (take gone text) on (omega (arith, is, fewer, length-take gone text))

-- the writer took no more
pub kept_all : (taken : Option Text) (n : ℕ) → Keeps (option_map (flushed n) taken) (option_map (flushed n) taken)
kept_all None n = tt
kept_all (Some xs) n = refl

pub all_flushed : (taken : Option Text) → option_map (flushed 0) taken ≡ taken
all_flushed None = refl
all_flushed (Some xs) = ap (λ (l : Text). Some l) (take_all (length xs - 0) xs (omega arith))

-- a flush went well
pub flushed_grew : (old new : Option Text) (n : ℕ) → Keeps old new → Grew (option_map (flushed n) old) (option_map (flushed 0) new)
flushed_grew None new n kept = ([], tt)
flushed_grew (Some xs) None n kept = absurd kept
flushed_grew (Some xs) (Some ys) n kept =
    (drop (length xs - n) xs, take_all (length ys - 0) ys (omega arith) ∙ kept ∙ sym (take-append-drop (length xs - n) xs))

-- or failed
pub unflushed_grew : (old new : Option Text) (n : ℕ) → Keeps old new → Grew (option_map (flushed n) old) (option_map (flushed n) new)
unflushed_grew None new n kept = ([], tt)
unflushed_grew (Some xs) None n kept = absurd kept
unflushed_grew (Some xs) (Some ys) n kept = ([], ap (λ (l : Text). flushed n l) kept ∙ sym (append-nil (flushed n xs)))
