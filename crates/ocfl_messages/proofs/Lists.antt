-- Lists of known findings, line by line.
use Rattle.std.proofs.Common.{◌≡◌, ◌≢◌, ℕ, ◌+◌, ◌==◌, List, [], ◌∷◌, ◌++◌, true, length, take, Option, Some, None, IfSome, refl, sym, ap, subst, ◌∙◌, arith, append_assoc, eqb-true, length-take, length-append}
use Rattle.std.proofs.lemmas.Grind.{flat_map-append}
use Rattle.std.proofs.lemmas.List.{append-nil, append_cancel_right}
use Rattle.std.proofs.lemmas.List.Elements.{All-append, All-cons, All-nil, filter_map-append}
use Rattle.std.specs.Prelude.{All, codes}
use Rattle.ocfl_tree.specs.Place.{Text}
use Rattle.ocfl_report.proofs.{Inputs.{IsReadTo, all_read}, Separators.{first_parts}}
use Rattle.ocfl_messages.specs.List.{IsBadLine, IsEntry, IsEntryAs, IsKnownText, IsRemark, IsRow, IsSaid, KnownStopsRightly, ListsEntries, Row, entries_of, max_bytes, row_text, rows_text}
use Rattle.ocfl_messages.specs.declared.known.Reach.{Reach}
use Rattle.ocfl_messages.specs.declared.known.Reach.TheVariants.{One, Place, Branch}
use Rattle.ocfl_messages.specs.declared.known.KnownEntry.{KnownEntry}
use Rattle.ocfl_messages.specs.declared.list.KnownStop.{KnownStop}
use Rattle.ocfl_messages.specs.declared.list.KnownStop.TheVariants.{Long, Read, Memory}
use Rattle.ocfl_report.specs.{Line.{Line, line_of}, Text.{IsLineText}}
use Rattle.ocfl_report.specs.declared.line.Line.{Line as MadeLine}
use Rattle.ocfl_messages.specs.declared.list.KnownStop.TheVariants as stop

-- ---- one line

-- a line that was cut off at its line feed
pub row_cut : (text part after : Text) (o : Option KnownEntry) → text ≡ part ++ 10 ∷ after → text ≡ row_text (part, o) ++ after
row_cut text part after o e = e ∙ sym (append_assoc part (10 ∷ []) after)

said_refused : (part : Text) (o : Option KnownEntry) → (IsRemark part → ⊥) → ((e : KnownEntry) → IsEntry part e → ⊥) → IsSaid part o → ⊥
said_refused part None plain none h = plain h
said_refused part (Some e) plain none h = none e h.1

-- what is no remark and no entry begins no list
pub row_refused : (text part after : Text) → text ≡ part ++ 10 ∷ after → All (λ b. b ≢ 10) part → (IsRemark part → ⊥) → ((e : KnownEntry) → IsEntry part e → ⊥)
    → (r : Row) (rest : Text) → IsRow r → text ≢ row_text r ++ rest
row_refused text part after e one plain none r rest h f =
    let same : part ≡ r.0 = (first_parts 10 part r.0 after rest one h.0 (sym e ∙ f ∙ append_assoc r.0 (10 ∷ []) rest)).0 in
    said_refused part r.1 plain none (subst (λ t. IsSaid t r.1) (sym same) h.1)

-- ---- many lines

-- the lines that were read, and one more
pub rows_more : (bytes rest after : Text) (rs : List Row) (r : Row) → bytes ≡ rows_text rs ++ rest → rest ≡ row_text r ++ after → bytes ≡ rows_text (rs ++ r ∷ []) ++ after
rows_more bytes rest after rs r e f =
    let grown : rows_text (rs ++ r ∷ []) ≡ rows_text rs ++ row_text r = flat_map-append row_text rs (r ∷ []) ∙ ap (λ t. rows_text rs ++ t) (append-nil (row_text r)) in
    e ∙ ap (λ t. rows_text rs ++ t) f ∙ sym (append_assoc (rows_text rs) (row_text r) after) ∙ ap (λ t. t ++ after) (sym grown)

pub entries_more : (old new : List KnownEntry) (rs : List Row) (r : Row) → old ≡ entries_of rs → new ≡ old ++ entries_of (r ∷ []) → new ≡ entries_of (rs ++ r ∷ [])
entries_more old new rs r e f = f ∙ ap (λ t. t ++ entries_of (r ∷ [])) e ∙ sym (filter_map-append (λ (x : Row). x.1) rs (r ∷ []))

pub rows_all : (rs : List Row) (r : Row) → All IsRow rs → IsRow r → All IsRow (rs ++ r ∷ [])
rows_all rs r h k = All-append IsRow rs (r ∷ []) h (All-cons IsRow r [] k (All-nil IsRow))

-- a text without bytes
pub no_more : (t : Text) → (length t == 0) ≡ true → t ≡ []
no_more [] e = refl
no_more (c ∷ t) e = let none = eqb-true (length (c ∷ t)) 0 e in absurd (omega arith)

pub rows_counted : (n : ℕ) (rs : List Row) (r : Row) → n ≡ length rs + 1 → n + 1 ≡ length (rs ++ r ∷ []) + 1
rows_counted n rs r e = omega (arith, e, length-append rs (r ∷ []))

-- ---- all bytes

-- the bytes that were read are the first of those, one more than a list can have
abbrev pub limit : ℕ
limit = 16777217

abbrev pub IsRead : Option Text → Text → Type 0
IsRead known read = IsReadTo limit known read

stop_limited : (b : Text) (stop : KnownStop) → KnownStopsRightly (take limit b) stop → KnownStopsRightly b stop
stop_limited b (stop.Line n) h = subst (λ t. IsBadLine t n) (all_read limit max_bytes b (omega arith) h.short) h
stop_limited b Long h = omega (arith, h, length-take limit b)
stop_limited b Read h = tt
stop_limited b Memory h = tt

pub known_read : (known : Option Text) (read : Text) (es : List KnownEntry) → IsRead known read → IsKnownText read es → IfSome known (λ b. IsKnownText b es)
known_read None read es is h = tt
known_read (Some b) read es is h =
    let limited : IsKnownText (take limit b) es = subst (λ t. IsKnownText t es) is h in
    subst (λ t. IsKnownText t es) (all_read limit max_bytes b (omega arith) limited.short) limited

pub entries_read : (known : Option Text) (read : Text) (es : List KnownEntry) → IsRead known read → ListsEntries read es → IfSome known (λ b. ListsEntries b es)
entries_read None read es is h = tt
entries_read (Some b) read es is h = (h.0, known_read (Some b) read h.0 is h.1, h.2)

pub stop_read : (known : Option Text) (read : Text) (stop : KnownStop) → IsRead known read → KnownStopsRightly read stop → IfSome known (λ b. KnownStopsRightly b stop)
stop_read None read stop is h = tt
stop_read (Some b) read stop is h = stop_limited b stop (subst (λ t. KnownStopsRightly t stop) is h)

-- ---- what a line names

named_as : (row : Text) → ((l : Line) → IsLineText (row ++ codes "\n") l → ⊥) → ((l : Line) → IsLineText (row ++ codes "\t-\n") l → ⊥)
    → ((path : Text) → row ≡ path ++ codes "/" → (l : Line) → IsLineText (path ++ codes "\t-\n") l → ⊥) → (r : Reach) (l : Line) → IsEntryAs r row l → ⊥
named_as row one place branch One l h = one l h
named_as row one place branch Place l h = place l h
named_as row one place branch Branch l h = branch h.0 h.1 l h.2

-- what is the text of no line, in none of the three ways, names nothing
pub none_named : (row : Text) → ((l : Line) → IsLineText (row ++ codes "\n") l → ⊥) → ((l : Line) → IsLineText (row ++ codes "\t-\n") l → ⊥)
    → ((path : Text) → row ≡ path ++ codes "/" → (l : Line) → IsLineText (path ++ codes "\t-\n") l → ⊥) → (e : KnownEntry) → IsEntry row e → ⊥
none_named row one place branch e h = named_as row one place branch e.reach (line_of e.line) h

-- the entry of a branch
pub branch_named : (row path : Text) (e : KnownEntry) (line : MadeLine) → e.reach ≡ Branch → e.line ≡ line → row ≡ path ++ codes "/"
    → IsLineText (path ++ codes "\t-\n") (line_of line) → IsEntry row e
branch_named row path e line r same f h =
    let made : IsEntryAs Branch row (line_of e.line) = (path, f, subst (λ m. IsLineText (path ++ codes "\t-\n") (line_of m)) (sym same) h) in
    subst (λ x. IsEntryAs x row (line_of e.line)) (sym r) made

-- the same path before a slash
pub same_path : (row path other : Text) → row ≡ path ++ codes "/" → row ≡ other ++ codes "/" → path ≡ other
same_path row path other e f = append_cancel_right path other (codes "/") (sym e ∙ f)
