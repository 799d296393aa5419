-- Entries whose names strictly rise.
use Rattle.std.proofs.Common.{◌≡◌, ℕ, suc, ◌<◌, false, cond, List, [], ◌∷◌, length, get_or, Some, None, sym, ◌∙◌, ap, refl, arith}
use Rattle.std.specs.declared.cmp.Ordering.TheVariants.{Less}
use Rattle.ocfl_tree.specs.{Place.{Text, text_cmp, text_eq}, Listing.{AreApart, kind_in}}
use Rattle.ocfl_tree.specs.declared.store.Entry.{Entry}
use Rattle.ocfl_tree.proofs.Orders.{not_below_itself}
use Rattle.ocfl_tree.proofs.Places.{text_eq-Decides, text_cmp_total, not_decided}

abbrev pub Rise : List Entry → Type 0
Rise es = (k : ℕ) (d : Entry) → suc k < length es → text_cmp (get_or es k d).name (get_or es (suc k) d).name ≡ Less

rest : (e : Entry) (es : List Entry) → Rise (e ∷ es) → Rise es
rest e es r = λ k d h. r (suc k) d (omega (arith, h))

other_name : (n m : Text) → text_cmp n m ≡ Less → text_eq m n ≡ false
other_name n m less = not_decided _ _ (text_eq-Decides m n) (λ is. not_below_itself text_cmp_total n (ap (text_cmp n) (sym is) ∙ less))

above : (n : Text) (e : Entry) (es : List Entry) → text_cmp n e.name ≡ Less → Rise (e ∷ es) → kind_in (e ∷ es) n ≡ None
above n e [] less r = ap (λ b. cond b (Some e.kind) None) (other_name n e.name less)
above n e (f ∷ fs) less r =
    ap (λ b. cond b (Some e.kind) (kind_in (f ∷ fs) n)) (other_name n e.name less)
    ∙ above n f fs (text_cmp_total.trans n e.name f.name less (r 0 e (omega arith))) (rest e (f ∷ fs) r)

pub apart_rising : (es : List Entry) → Rise es → AreApart es
apart_rising [] r = tt
apart_rising (e ∷ []) r = (refl, tt)
apart_rising (e ∷ f ∷ es) r = (above e.name f es (r 0 e (omega arith)) (rest e (f ∷ es) r), apart_rising (f ∷ es) (rest e (f ∷ es) r))
