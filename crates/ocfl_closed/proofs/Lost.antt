-- Which objects lists of what is gone call gone.
use Rattle.std.proofs.Common.{◌≡◌, ◌⊎◌, inl, inr, ℕ, ◌≤◌, ◌<◌, ◌+◌, ◌-◌, suc, List, [], ◌∷◌, ◌++◌, Option, Some, None, Result, OnOk, IfSome, All, length, take, option_map, cond, refl, sym, ap, subst, ◌∙◌, append_assoc, append-nil, length-append, arith}
use Rattle.std.proofs.{KnownBytes.{Consumes-nil, Consumes-trans, Consumes-whole}, lemmas.Bool.{cases_lt, ne_eqb}, lemmas.List.{length-take-le, take_all, take-append-le, Concat.{flat_map-append}}}
use Rattle.std.proofs.lemmas.List.Elements.{All-append, All-cons, All-nil}
use Rattle.std.specs.Io.KnownBytes.{Consumes, IsAtEnd}
use Rattle.ocfl_tree.specs.{Place.{Text, Place}, Name.{IsPlace}}
use Rattle.ocfl_compare.specs.Gone.{gone_row, gone_text}
use Rattle.ocfl_compare.specs.declared.change.ChangeAt.{ChangeAt}
use Rattle.ocfl_closed.specs.Back.{AreLost, AreLostBefore, AreLostLately, list_of, lost_object, lost_objects, most_lists, most_objects}

-- ---- the first of some places

-- one more is kept where there is room
pub kept_more : (most : ℕ) (old new all : List Place) (p : Place) → length old < most → new ≡ old ++ p ∷ [] → old ≡ take most all → new ≡ take most (all ++ p ∷ [])
kept_more most old new all p room is e = by (cases_lt (length all) most)
  where
    by : (length all < most) ⊎ (most ≤ length all) → new ≡ take most (all ++ p ∷ [])
    by (inl short) =
        let long : length (all ++ p ∷ []) ≡ length all + 1 = length-append all (p ∷ []) in
        is ∙ ap (λ ps. ps ++ p ∷ []) (e ∙ take_all most all (omega (arith, short))) ∙ sym (take_all most (all ++ p ∷ []) (omega (arith, short, long)))
    by (inr long) =
        let full : length old ≡ most = ap length e ∙ length-take-le most all long in
        absurd (omega (arith, full, room))

-- and none where there is none
pub kept_full : (most : ℕ) (old all : List Place) (p : Place) → most ≤ length old → old ≡ take most all → old ≡ take most (all ++ p ∷ [])
kept_full most old all p full e = by (cases_lt (length all) most)
  where
    by : (length all < most) ⊎ (most ≤ length all) → old ≡ take most (all ++ p ∷ [])
    by (inl short) =
        let same : length old ≡ length all = ap length (e ∙ take_all most all (omega (arith, short))) in
        absurd (omega (arith, full, same, short))
    by (inr long) = e ∙ sym (take-append-le most all (p ∷ []) long)

-- ---- the rows of a list

-- rows were read from all bytes of a list on, and what they call gone was kept
pub record AreTaken (start left : Option Text) (old new : List Place) : Type 0 where
  pub rows : List ChangeAt
  pub places : All (λ c. IsPlace c.place) rows
  pub read : Consumes start left (gone_text rows)
  pub kept : (all : List Place) → old ≡ take most_objects all → new ≡ take most_objects (all ++ lost_objects rows)

pub none_taken : (start : Option Text) (old : List Place) → AreTaken start start old old
none_taken start old = record {
  rows = [];
  places = All-nil (λ (c : ChangeAt). IsPlace c.place);
  read = Consumes-nil start;
  kept = λ all e. e ∙ ap (take most_objects) (sym (append-nil all));
}

pub one_taken : (start left after : Option Text) (old mid new : List Place) (row slice : Text) → AreTaken start left old mid → Consumes left after row → slice ≡ row
    → (c : ChangeAt) × (IsPlace c.place × ((slice ≡ gone_row c) × ((all : List Place) → mid ≡ take most_objects all → new ≡ take most_objects (all ++ lost_object c)))) → AreTaken start after old new
one_taken start left after old mid new row slice t read same (c, (place, (is, kept))) = record {
  rows = t.rows ++ c ∷ [];
  places = All-append (λ (c : ChangeAt). IsPlace c.place) t.rows (c ∷ []) t.places (All-cons (λ (c : ChangeAt). IsPlace c.place) c [] place (All-nil (λ (c : ChangeAt). IsPlace c.place)));
  read = subst (Consumes start after) (ap (λ b. gone_text t.rows ++ b) (sym same ∙ is ∙ sym (append-nil (gone_row c))) ∙ sym (flat_map-append gone_row t.rows (c ∷ []))) (Consumes-trans start left after _ row t.read read);
  kept = λ all e. kept (all ++ lost_objects t.rows) (t.kept all e)
      ∙ ap (take most_objects) (append_assoc all (lost_objects t.rows) (lost_object c) ∙ ap (λ ps. all ++ ps) (ap (λ ps. lost_objects t.rows ++ ps) (sym (append-nil (lost_object c))) ∙ sym (flat_map-append lost_object t.rows (c ∷ []))));
}

pub all_taken : (start left : Option Text) (old new : List Place) → AreTaken start left old new → IsAtEnd left
    → IfSome start (λ bytes. (more : List Place) × (AreLost (Some bytes) more × ((all : List Place) → old ≡ take most_objects all → new ≡ take most_objects (all ++ more))))
all_taken start left old new t end =
    Consumes-whole start left (gone_text t.rows) (λ bytes. (more : List Place) × (AreLost (Some bytes) more × ((all : List Place) → old ≡ take most_objects all → new ≡ take most_objects (all ++ more)))) t.read end
    (lost_objects t.rows, ((t.rows, (record { places = t.places; is = refl }, refl)), t.kept))

-- ---- the lists before a cycle

-- what a list had more was kept
abbrev pub Keeps : List Place → List Place → Option Text → Type 0
Keeps old new list = (more : List Place) × (AreLost list more × ((all : List Place) → old ≡ take most_objects all → new ≡ take most_objects (all ++ more)))

pub keeps_none : (old : List Place) → Keeps old old None
keeps_none old = ([], (refl, λ all e. e ∙ ap (take most_objects) (sym (append-nil all))))

-- no list is there, or this one
pub keeps_where_none : {R : Type 0} (remaining : R → Option Text) (found : Option R) (list : Option Text) (old : List Place) → found ≡ None → option_map remaining found ≡ option_map Some list → Keeps old old list
keeps_where_none remaining found None old none e = keeps_none old
keeps_where_none remaining found (Some list) old none e = absurd (none_is_some (sym (ap (option_map remaining) none) ∙ e))
  where
    none_is_some : None ≡ Some (Some list) → ⊥
    none_is_some e = cc

pub keeps_opened : {R T E : Type 0} (r : Result T E) (remaining : R → Option Text) (found : Option R) (opened : R) (list : Option Text) (old new : List Place) → found ≡ Some opened → option_map remaining found ≡ option_map Some list
    → OnOk r (IfSome (remaining opened) (λ bytes. Keeps old new (Some bytes))) → OnOk r (Keeps old new list)
keeps_opened r remaining found opened None old new some e kept = absurd (some_is_none (sym (ap (option_map remaining) some) ∙ e))
  where
    some_is_none : Some (remaining opened) ≡ None → ⊥
    some_is_none e = cc
keeps_opened r remaining found opened (Some list) old new some e kept =
    subst (λ known. OnOk r (IfSome known (λ bytes. Keeps old new (Some bytes)))) (same (sym (ap (option_map remaining) some) ∙ e)) kept
  where
    same : Some (remaining opened) ≡ Some (Some list) → remaining opened ≡ Some list
    same e = cc

-- cycle 0 has none
list_is : (lists : ℕ → Option Text) (cycle : ℕ) → 0 < cycle → list_of lists cycle ≡ lists cycle
list_is lists cycle h = ap (λ b. cond b None (lists cycle)) (ne_eqb cycle 0 (λ e. omega (arith, h, e)))

pub keeps_at_none : (lists : ℕ → Option Text) (cycle : ℕ) (old : List Place) → cycle ≡ 0 → Keeps old old (list_of lists cycle)
keeps_at_none lists cycle old e = subst (λ n. Keeps old old (list_of lists n)) (sym e) (keeps_none old)

pub keeps_at : {T E : Type 0} (r : Result T E) (lists : ℕ → Option Text) (cycle : ℕ) (old new : List Place) → 0 < cycle → OnOk r (Keeps old new (lists cycle)) → OnOk r (Keeps old new (list_of lists cycle))
keeps_at r lists cycle old new some kept = subst (λ l. OnOk r (Keeps old new l)) (sym (list_is lists cycle some)) kept

-- of so many lists the first of what is lost are kept
abbrev pub AreKept : (ℕ → Option Text) → ℕ → ℕ → List Place → Type 0
AreKept lists cycle n places = (all : List Place) × (AreLostBefore lists cycle n all × (places ≡ take most_objects all))

pub none_kept_before : (lists : ℕ → Option Text) (cycle : ℕ) (places : List Place) → places ≡ [] → AreKept lists cycle 0 places
none_kept_before lists cycle places e = ([], (refl, e))

pub kept_before : (lists : ℕ → Option Text) (cycle n at : ℕ) (old new : List Place) → at ≡ cycle - (n + 1) → AreKept lists cycle n old → Keeps old new (list_of lists at) → AreKept lists cycle (n + 1) new
kept_before lists cycle n at old new e k more =
    let next : suc n ≡ n + 1 = omega arith in
    subst (λ m. AreKept lists cycle m new) next
    (k.0 ++ more.0, ((k.0, (more.0, (k.1.0, (subst (λ m. AreLost (list_of lists m) more.0) (e ∙ ap (λ m. cycle - m) (sym next)) more.1.0, refl)))), more.1.1 k.0 k.1.1))

-- and of all that are read
abbrev pub AreFirst : (ℕ → Option Text) → ℕ → List Place → Type 0
AreFirst lists cycle places = (all : List Place) × (AreLostLately lists cycle all × (places ≡ take most_objects all))

pub all_kept : (lists : ℕ → Option Text) (cycle n : ℕ) (places : List Place) → n ≡ most_lists → AreKept lists cycle n places → AreFirst lists cycle places
all_kept lists cycle n places e k = (k.0, (record { count = n; are = k.1.0; all = e }, k.1.1))
