-- The front of a checkpoint's file.
use Rattle.std.proofs.Common.{◌≡◌, ℕ, ◌+◌, ◌≤◌, length, take, Option, Some, None, Vec, Global, refl, sym, ◌∙◌, subst, ap, arith, take_all, length-take}
use Rattle.std.specs.Prelude.{IfSome}
use Rattle.std.specs.Option.{option_map}
use Rattle.ocfl_state.specs.{Content.{Bytes}, Calls.{bytes_of, HasLong, most_checkpoint}}
use Rattle.ocfl_disk.specs.{Names.{Names}, Disk.{IsFound}}
use Rattle.ocfl_disk.specs.declared.state_file.StateFile.{StateFile}
use Rattle.ocfl_disk.specs.declared.state_file.StateFile.TheVariants.{Checkpoint}

is_checkpoint : (there : StateFile) (names : Names) (found : Option ℕ) → there ≡ Checkpoint → IsFound there names found → found ≡ names.checkpoint
is_checkpoint there names found is shows = subst (λ (name : StateFile). IsFound name names found) is shows

pub front_found : (there : StateFile) (names : Names) (bytes later : ℕ → Bytes) (found : Option ℕ) (file m : ℕ) (items : Bytes)
    → there ≡ Checkpoint → IsFound there names found → found ≡ Some file → later ≡ bytes → items ≡ take m (later file)
    → Some items ≡ option_map (take m) (option_map bytes names.checkpoint)
front_found there names bytes later found file m items is shows there_is same front =
    ap Some (front ∙ ap (λ (b : ℕ → Bytes). take m (b file)) same)
    ∙ ap (λ (name : Option ℕ). option_map (take m) (option_map bytes name)) (sym there_is ∙ is_checkpoint there names found is shows)

pub none_found : (there : StateFile) (names : Names) (bytes : ℕ → Bytes) (found : Option ℕ) (m : ℕ)
    → there ≡ Checkpoint → IsFound there names found → found ≡ None
    → None ≡ option_map (take m) (option_map bytes names.checkpoint)
none_found there names bytes found m is shows none =
    ap (λ (name : Option ℕ). option_map (take m) (option_map bytes name)) (sym none ∙ is_checkpoint there names found is shows)

some_not_none : (x : Bytes) → Some x ≡ None → ⊥
some_not_none x is = cc

items_of : (x y : Bytes) → Some x ≡ Some y → x ≡ y
items_of x y is = ap (λ (o : Option Bytes). by o) is
  where
    by : Option Bytes → Bytes
    by (Some z) = z
    by None = x

-- a front of one byte more than there may be, which is no longer than that, is all
front_is_all : (m : ℕ) (items all : Bytes) → items ≡ take (m + 1) all → length items ≤ m → items ≡ all
front_is_all m items all is short = is ∙ take_all (m + 1) all (omega (arith, short, ap length is, length-take (m + 1) all))

pub fits_whole : (found : Option (Vec ℕ Global)) (checkpoint : Option Bytes) → option_map bytes_of found ≡ option_map (take (most_checkpoint + 1)) checkpoint
    → IfSome found (λ bytes. length bytes.items ≤ most_checkpoint) → option_map bytes_of found ≡ checkpoint
fits_whole None None is short = refl
fits_whole None (Some all) is short = absurd (some_not_none _ (sym is))
fits_whole (Some v) None is short = absurd (some_not_none _ is)
fits_whole (Some v) (Some all) is short = ap Some (front_is_all most_checkpoint v.items all (items_of v.items (take (most_checkpoint + 1) all) is) short)

pub long_whole : (found : Option (Vec ℕ Global)) (checkpoint : Option Bytes) → option_map bytes_of found ≡ option_map (take (most_checkpoint + 1)) checkpoint
    → HasLong (option_map bytes_of found) → HasLong checkpoint
long_whole None checkpoint is long = absurd long
long_whole (Some v) None is long = absurd (some_not_none _ is)
long_whole (Some v) (Some all) is long = omega (arith, long, ap length (items_of v.items (take (most_checkpoint + 1) all) is), length-take (most_checkpoint + 1) all)
