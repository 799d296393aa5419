-- Which texts are rows of lists of what is gone, and which are lists.
use Rattle.std.proofs.Common.{◌≡◌, ◌≢◌, ◌⊎◌, inl, inr, ℕ, List, [], ◌∷◌, ◌++◌, Option, Some, None, All, IfSome, flat_map, option_map, true, cond, refl, sym, ap, subst, ◌∙◌, append_assoc, append-nil, arith}
use Rattle.std.proofs.lemmas.{Bool.{ne_eqb}, List.{append_cancel_right}}
use Rattle.std.proofs.lemmas.List.Elements.{All-append, All-cons, All-head, All-tail}
use Rattle.std.specs.{List.{list_all}, Io.{BufRead.{take_through}, KnownBytes.{Consumes}}}
use Rattle.ocfl_tree.specs.{Place.{Text, Place}, Name.{IsPlace}}
use Rattle.ocfl_report.specs.Text.{place_text}
use Rattle.ocfl_report.proofs.Bytes.{All-from_test, IsPrintable, IsPrintable-from_test, is_printable}
use Rattle.ocfl_report.proofs.{LineTexts.{no_line_feed, no_tab}, PlaceTexts.{place_text_printable}, Separators.{first_parts, separated_not_empty, separator_is_there}}
use Rattle.ocfl_compare.specs.Gone.{gone_row, gone_text, gone_word, row_text}
use Rattle.ocfl_compare.specs.declared.change.{Change.{Change}, ChangeAt.{ChangeAt}}
use Rattle.ocfl_compare.specs.declared.change.Change.TheVariants.{Gone, Undeclared, FileGone, Unlooked, Found, Repaired, Missing, Rewritten, WentBack, NewVersion}
use Rattle.ocfl_closed.specs.Back.{IsBadList, IsNoList, IsRowOf}

-- ---- one row

-- the word of a change that has a row
record HasWord (c : Change) : Type 0 where
  pub word : Text
  pub is : gone_word c ≡ word ∷ []
  pub printable : All IsPrintable word

word_is : (c : Change) (word : Text) → gone_word c ≡ word ∷ [] → list_all is_printable word ≡ true → HasWord c
word_is c word e h = record { word = word; is = e; printable = All-from_test IsPrintable is_printable IsPrintable-from_test word h }

-- a change has no word, or one
word_of : (c : Change) → (gone_word c ≡ []) ⊎ HasWord c
word_of Gone = inr (word_is Gone _ refl refl)
word_of Undeclared = inr (word_is Undeclared _ refl refl)
word_of FileGone = inr (word_is FileGone _ refl refl)
word_of Unlooked = inl refl
word_of (Found code) = inl refl
word_of (Repaired code) = inl refl
word_of Missing = inr (word_is Missing _ refl refl)
word_of Rewritten = inr (word_is Rewritten _ refl refl)
word_of WentBack = inr (word_is WentBack _ refl refl)
word_of NewVersion = inr (word_is NewVersion _ refl refl)

-- the row of a change with a word: the word, a tab, the place and a line feed
record IsRow (c : ChangeAt) : Type 0 where
  pub has : HasWord c.change
  pub place : IsPlace c.place
  pub is : gone_row c ≡ has.word ++ 9 ∷ place_text c.place ++ 10 ∷ []

row_with : (c : ChangeAt) → IsPlace c.place → HasWord c.change → IsRow c
row_with c place h = record {
  has = h;
  place = place;
  is = ap (flat_map (row_text c.place)) h.is ∙ append-nil (row_text c.place h.word);
}

-- parted at its first tab
by_tab : (c : ChangeAt) (r : IsRow c) → gone_row c ≡ r.has.word ++ 9 ∷ (place_text c.place ++ 10 ∷ [])
by_tab c r = r.is ∙ append_assoc r.has.word (9 ∷ place_text c.place) (10 ∷ [])

row_of : (row : Text) (c : ChangeAt) → IsRowOf row c → IsRow c
row_of row c h = by (word_of c.change)
  where
    by : (gone_word c.change ≡ []) ⊎ HasWord c.change → IsRow c
    by (inl none) = absurd (h.word none)
    by (inr some) = row_with c h.place some

-- ---- a row is read

pub no_tab_in_row : (row : Text) → All (λ b. b ≢ 9) row → (c : ChangeAt) → IsRowOf row c → ⊥
no_tab_in_row row without c h =
    let r = row_of row c h in
    separator_is_there 9 r.has.word (place_text c.place ++ 10 ∷ []) (subst (All (λ b. b ≢ 9)) (h.is ∙ by_tab c r) without)

-- the word of a row is what comes before its first tab
parts_of : (row word rest : Text) (c : ChangeAt) → row ≡ word ++ 9 ∷ rest → All (λ b. b ≢ 9) word → (h : IsRowOf row c)
    → (word ≡ (row_of row c h).has.word) × (rest ≡ place_text c.place ++ 10 ∷ [])
parts_of row word rest c e without h =
    let r = row_of row c h in
    first_parts 9 word r.has.word rest (place_text c.place ++ 10 ∷ []) without (no_tab r.has.word r.has.printable) (sym e ∙ h.is ∙ by_tab c r)

pub no_such_word : (row word rest : Text) → row ≡ word ++ 9 ∷ rest → All (λ b. b ≢ 9) word → ((c : Change) → gone_word c ≢ word ∷ []) → (c : ChangeAt) → IsRowOf row c → ⊥
no_such_word row word rest e without none c h =
    let r = row_of row c h in
    none c.change (r.has.is ∙ ap (λ w. w ∷ []) (sym (parts_of row word rest c e without h).0))

pub no_end_of_row : (row word rest : Text) → row ≡ word ++ 9 ∷ rest → All (λ b. b ≢ 9) word → ((path : Text) → rest ≢ path ++ 10 ∷ []) → (c : ChangeAt) → IsRowOf row c → ⊥
no_end_of_row row word rest e without none c h = none (place_text c.place) (parts_of row word rest c e without h).1

pub no_such_place : (row word rest path : Text) → row ≡ word ++ 9 ∷ rest → All (λ b. b ≢ 9) word → rest ≡ path ++ 10 ∷ [] → ((p : Place) → IsPlace p → path ≡ place_text p → ⊥)
    → (c : ChangeAt) → IsRowOf row c → ⊥
no_such_place row word rest path e without end none c h =
    none c.place h.place (append_cancel_right path (place_text c.place) (10 ∷ []) (sym end ∙ (parts_of row word rest c e without h).1))

-- ---- rows in a list

-- what is before the line feed of a row
abbrev front : (c : ChangeAt) → IsRow c → Text
front c r = r.has.word ++ 9 ∷ place_text c.place

front_is : (c : ChangeAt) (r : IsRow c) (t : Text) → gone_row c ++ t ≡ front c r ++ 10 ∷ t
front_is c r t = ap (λ x. x ++ t) r.is ∙ append_assoc (front c r) (10 ∷ []) t

one_line : (c : ChangeAt) (r : IsRow c) → All (λ b. b ≢ 10) (front c r)
one_line c r =
    let P : ℕ → Type 0 = λ b. b ≢ 10 in
    All-append P r.has.word (9 ∷ place_text c.place) (no_line_feed r.has.word r.has.printable)
    (All-cons P 9 (place_text c.place) (λ e. omega (arith, e)) (no_line_feed (place_text c.place) (place_text_printable c.place r.place)))

abbrev ArePlaces : List ChangeAt → Type 0
ArePlaces cs = All (λ c. IsPlace c.place) cs

-- a change without a word has no row
no_row : (c : ChangeAt) (t : Text) → gone_word c.change ≡ [] → gone_row c ++ t ≡ t
no_row c t none = ap (λ ws. flat_map (row_text c.place) ws ++ t) none

-- the first row of a list, and what follows it
record Begins (t : Text) : Type 0 where
  pub first : ChangeAt
  pub row : IsRow first
  pub more : List ChangeAt
  pub places : ArePlaces more
  pub is : t ≡ gone_row first ++ gone_text more

-- a list has no row, or a first one
first_row : (cs : List ChangeAt) → ArePlaces cs → (gone_text cs ≡ []) ⊎ Begins (gone_text cs)
first_row [] h = inl refl
first_row (c ∷ cs) h = by (word_of c.change) (first_row cs (All-tail (λ (d : ChangeAt). IsPlace d.place) c cs h))
  where
    P : ChangeAt → Type 0
    P c = IsPlace c.place

    later : gone_text (c ∷ cs) ≡ gone_text cs → (gone_text cs ≡ []) ⊎ Begins (gone_text cs) → (gone_text (c ∷ cs) ≡ []) ⊎ Begins (gone_text (c ∷ cs))
    later e (inl none) = inl (e ∙ none)
    later e (inr b) = inr (subst Begins (sym e) b)

    by : (gone_word c.change ≡ []) ⊎ HasWord c.change → (gone_text cs ≡ []) ⊎ Begins (gone_text cs) → (gone_text (c ∷ cs) ≡ []) ⊎ Begins (gone_text (c ∷ cs))
    by (inl none) more = later (no_row c (gone_text cs) none) more
    by (inr some) more = inr (record { first = c; row = row_with c (All-head P c cs h) some; more = cs; places = All-tail P c cs h; is = refl })

-- what follows a line in a list is one
after_line : (line t : Text) (cs : List ChangeAt) → All (λ b. b ≢ 10) line → ArePlaces cs → line ++ 10 ∷ t ≡ gone_text cs → (ds : List ChangeAt) × (ArePlaces ds × (t ≡ gone_text ds))
after_line line t cs plain h e = by (first_row cs h)
  where
    by : (gone_text cs ≡ []) ⊎ Begins (gone_text cs) → (ds : List ChangeAt) × (ArePlaces ds × (t ≡ gone_text ds))
    by (inl none) = absurd (separated_not_empty 10 line t (e ∙ none))
    by (inr b) =
        (b.more, (b.places, (first_parts 10 line (front b.first b.row) t (gone_text b.more) plain (one_line b.first b.row) (e ∙ b.is ∙ front_is b.first b.row (gone_text b.more))).1))

-- and so is what follows some rows
after_rows : (rows : List ChangeAt) (t : Text) (cs : List ChangeAt) → ArePlaces rows → ArePlaces cs → gone_text rows ++ t ≡ gone_text cs → (ds : List ChangeAt) × (ArePlaces ds × (t ≡ gone_text ds))
after_rows [] t cs h k e = (cs, (k, e))
after_rows (r ∷ rows) t cs h k e = by (word_of r.change) (λ ds l f. after_rows rows t ds (All-tail (λ (c : ChangeAt). IsPlace c.place) r rows h) l f)
  where
    P : ChangeAt → Type 0
    P c = IsPlace c.place

    whole : gone_row r ++ (gone_text rows ++ t) ≡ gone_text cs
    whole = sym (append_assoc (gone_row r) (gone_text rows) t) ∙ e

    by : (gone_word r.change ≡ []) ⊎ HasWord r.change → ((ds : List ChangeAt) → ArePlaces ds → gone_text rows ++ t ≡ gone_text ds → (es : List ChangeAt) × (ArePlaces es × (t ≡ gone_text es)))
        → (ds : List ChangeAt) × (ArePlaces ds × (t ≡ gone_text ds))
    by (inl none) on = on cs k (sym (no_row r (gone_text rows ++ t) none) ∙ whole)
    by (inr some) on =
        let row = row_with r (All-head P r rows h) some in
        let next = after_line (front r row) (gone_text rows ++ t) cs (one_line r row) k (sym (front_is r row (gone_text rows ++ t)) ∙ whole) in
        on next.0 next.1.0 next.1.1

-- up to the first line feed
through_line : (line rest : Text) → All (λ b. b ≢ 10) line → take_through 10 (line ++ 10 ∷ rest) ≡ line ++ 10 ∷ []
through_line [] rest h = refl
through_line (x ∷ line) rest h =
    ap (λ z. cond z (x ∷ []) (x ∷ take_through 10 (line ++ 10 ∷ rest))) (ne_eqb x 10 (All-head (λ b. b ≢ 10) x line h))
    ∙ ap (λ t. x ∷ t) (through_line line rest (All-tail (λ b. b ≢ 10) x line h))

one_is_none : (w : Text) → w ∷ [] ≡ [] → ⊥
one_is_none w e = cc

-- the next line of a list is a row
next_is_row : (row t : Text) (cs : List ChangeAt) → ArePlaces cs → t ≡ gone_text cs → row ≡ take_through 10 t → row ≢ [] → (c : ChangeAt) × IsRowOf row c
next_is_row row t cs h e is some = by (first_row cs h)
  where
    by : (gone_text cs ≡ []) ⊎ Begins (gone_text cs) → (c : ChangeAt) × IsRowOf row c
    by (inl none) = absurd (some (is ∙ ap (take_through 10) (e ∙ none)))
    by (inr b) =
        let line = front b.first b.row in
        let plain = one_line b.first b.row in
        let this : row ≡ line ++ 10 ∷ [] = is ∙ ap (take_through 10) (e ∙ b.is ∙ front_is b.first b.row (gone_text b.more)) ∙ through_line line (gone_text b.more) plain in (
          b.first,
          record {
            place = b.row.place;
            word = λ none. one_is_none b.row.has.word (sym b.row.has.is ∙ none);
            is = this ∙ sym (front_is b.first b.row []) ∙ append-nil (gone_row b.first);
          },
        )

-- rows were read from all bytes of a list on, and what is next is none: it is no list
pub no_list : (start left : Option Text) (rows : List ChangeAt) (row slice : Text) → ArePlaces rows → Consumes start left (gone_text rows) → IfSome left (λ t. row ≡ take_through 10 t) → row ≢ [] → slice ≡ row
    → ((c : ChangeAt) → IsRowOf slice c → ⊥) → IfSome start IsNoList
no_list None left rows row slice h read is some same bad = tt
no_list (Some bytes) None rows row slice h read is some same bad = absurd read
no_list (Some bytes) (Some t) rows row slice h read is some same bad = λ cs k.
    let left = after_rows rows t cs h k.places (sym read ∙ k.is) in
    let next = next_is_row row t left.0 left.1.0 left.1.1 is some in
    bad next.0 (subst (λ b. IsRowOf b next.0) (sym same) next.1)

-- a list that was opened is there; if what it has is none, it is none
pub bad_list : (known list : Option Text) → Some known ≡ option_map Some list → IfSome known IsNoList → IsBadList list
bad_list known None e none = absurd (some_is_none e)
  where
    some_is_none : Some known ≡ None → ⊥
    some_is_none e = cc
bad_list known (Some bytes) e none = subst (λ k. IfSome k IsNoList) (same e) none
  where
    same : Some known ≡ Some (Some bytes) → known ≡ Some bytes
    same e = cc
