-- What is taken of changes, first and then.
use Rattle.std.proofs.Common.{◌≡◌, List, [], ◌∷◌, ◌++◌, Bool, true, false, refl, sym, ap, subst, ◌∙◌, append_assoc, append-nil}
use Rattle.std.specs.{Prelude.{◌||◌, cond, filter}, List.{list_any}}
use Rattle.std.proofs.{KnownBytes.{Appends-nil}, lemmas.List.{Elements.{filter-append}, Folds.{list_any-append}}}
use Rattle.ocfl_tree.specs.Place.{Place}
use Rattle.ocfl_compare.specs.{Changes.{is_left}, declared.change.ChangeAt.{ChangeAt}}
use Rattle.ocfl_compare.specs.{Internal.Seeing.{rows_joined}, Seen.{Seen, change, changes_in, line}}
use Rattle.ocfl_compare.specs.declared.side.Side.{Side}
use Rattle.ocfl_messages.specs.declared.known.KnownEntry.{KnownEntry}
use Rattle.ocfl_report.specs.Line.{Line}
use Rattle.std.specs.Io.KnownBytes.{Appends}
use Rattle.ocfl_compare.specs.Gone.{gone_text}
use Rattle.ocfl_words.specs.{Counted.{AreCounted, counted, is_news}, Held.{AreHeld, Held, held_after, held_noted, held_seen}, Kept.{Kept, kept_after, kept_seen, noted_from}, Noted.{Noted, noted_in}}
use Rattle.ocfl_closed.specs.Taken.{Stand, HasTaken}

or_false : (b : Bool) → b ≡ (b || false)
or_false true = refl
or_false false = refl

or_or : (a b c : Bool) → ((a || b) || c) ≡ (a || (b || c))
or_or true b c = refl
or_or false b c = refl

-- ---- what is kept and noted

pub kept_then : (k : Kept) (first then : List Seen) → kept_after k (first ++ then) ≡ kept_after (kept_after k first) then
kept_then k [] then = refl
kept_then k (line side l ∷ first) then = kept_then (kept_seen k side l) first then
kept_then k (change c ∷ first) then = kept_then k first then

pub noted_then : (known : List KnownEntry) (k : Kept) (first then : List Seen) → noted_from known k (first ++ then) ≡ noted_from known k first ++ noted_from known (kept_after k first) then
noted_then known k [] then = refl
noted_then known k (line side l ∷ first) then = noted_then known (kept_seen k side l) first then
noted_then known k (change c ∷ first) then = ap (λ ns. noted_in known k.before k.now c ∷ ns) (noted_then known k first then)

pub held_then : (known : List KnownEntry) (before : List Line) (k : Kept) (h : Held) (first then : List Seen)
    → held_after known before k h (first ++ then) ≡ held_after known before (kept_after k first) (held_after known before k h first) then
held_then known before k h [] then = refl
held_then known before k h (line side l ∷ first) then = held_then known before (kept_seen k side l) (held_seen h side l) first then
held_then known before k h (change c ∷ first) then = held_then known before k (held_noted before h (noted_in known k.before k.now c)) first then

-- ---- what is taken

pub takes_none : (a : Stand) → HasTaken a [] a
takes_none a = record {
  kept = refl;
  list = Appends-nil a.list;
  counted_on = λ ns h. subst (λ ms. AreCounted a.noting (counted ms)) (sym (append-nil ns)) h;
  held_on = λ h k. k;
  grave = or_false a.is_grave;
  known = refl;
  said = refl;
  since = refl;
  whole = refl;
}

pub takes_then : (a b c : Stand) (first then : List Seen) → HasTaken a first b → HasTaken b then c → HasTaken a (first ++ then) c
takes_then a b c first then p q =
    let ns = noted_from a.known a.kept first in
    let ms = noted_from b.known b.kept then in
    let both : noted_from a.known a.kept (first ++ then) ≡ ns ++ ms =
    noted_then a.known a.kept first then ∙ sym (λ i. ns ++ noted_from (p.known i) (p.kept i) then) in
    record {
      kept = q.kept ∙ ap (λ k. kept_after k then) p.kept ∙ sym (kept_then a.kept first then);
      list = rows_joined a.list b.list c.list first then p.list q.list;
      counted_on = λ os h. subst (λ l. AreCounted c.noting (counted (os ++ l))) (sym both)
          (subst (λ l. AreCounted c.noting (counted l)) (append_assoc os ns ms) (q.counted_on (os ++ ns) (p.counted_on os h)));
      held_on = λ h k. subst (AreHeld c.lines) (sym (held_then a.known a.said a.kept h first then ∙ sym (λ i. held_after (p.known i) (p.said i) (p.kept i) (held_after a.known a.said a.kept h first) then)))
          (q.held_on (held_after a.known a.said a.kept h first) (p.held_on h k));
      grave = q.grave ∙ ap (λ x. x || list_any is_news ms) p.grave ∙ or_or a.is_grave (list_any is_news ns) (list_any is_news ms)
          ∙ ap (λ x. a.is_grave || x) (sym (list_any-append is_news ns ms) ∙ ap (list_any is_news) (sym both));
      known = q.known ∙ p.known;
      said = q.said ∙ p.said;
      since = q.since ∙ p.since;
      whole = q.whole ∙ p.whole;
    }

-- a line that is seen is kept or not, and changes nothing that counts
pub took_line : (a b : Stand) (side : Side) (l : Line) → b.kept ≡ kept_seen a.kept side l → b.list ≡ a.list → b.known ≡ a.known → b.said ≡ a.said → b.noting ≡ a.noting
    → ((h : Held) → AreHeld a.lines h → AreHeld b.lines (held_seen h side l)) → b.since ≡ a.since → b.whole ≡ a.whole → b.is_grave ≡ a.is_grave
    → HasTaken a (line side l ∷ []) b
took_line a b side l kept list known said noting lines since whole grave = record {
  kept = kept;
  list = subst (λ l. Appends a.list l (gone_text [])) (sym list) (Appends-nil a.list);
  counted_on = λ ns h. subst (λ c. AreCounted c (counted (ns ++ []))) (sym noting) (subst (λ ms. AreCounted a.noting (counted ms)) (sym (append-nil ns)) h);
  held_on = lines;
  grave = grave ∙ or_false a.is_grave;
  known = known;
  said = said;
  since = since;
  whole = whole;
}

-- one change, which was noted by the lines that are kept
pub took_one : (a b : Stand) (c : ChangeAt) → b.kept ≡ a.kept → Appends a.list b.list (gone_text (c ∷ []))
    → ((ns : List Noted) → AreCounted a.noting (counted ns) → AreCounted b.noting (counted (ns ++ noted_in a.known a.kept.before a.kept.now c ∷ [])))
    → ((h : Held) → AreHeld a.lines h → AreHeld b.lines (held_noted a.said h (noted_in a.known a.kept.before a.kept.now c)))
    → b.is_grave ≡ (a.is_grave || is_news (noted_in a.known a.kept.before a.kept.now c)) → b.known ≡ a.known → b.said ≡ a.said → b.since ≡ a.since → b.whole ≡ a.whole → HasTaken a (change c ∷ []) b
took_one a b c kept list counted_on held_on grave known said since whole = record {
  kept = kept;
  list = list;
  counted_on = counted_on;
  held_on = held_on;
  grave = grave ∙ ap (λ x. a.is_grave || x) (or_false (is_news (noted_in a.known a.kept.before a.kept.now c)));
  known = known;
  said = said;
  since = since;
  whole = whole;
}

-- what is seen of these places: all lines, and the changes within them
abbrev pub is_seen_within : List Place → Seen → Bool
is_seen_within places (line side l) = true
is_seen_within places (change c) = is_left places c.place

abbrev pub within : List Place → List Seen → List Seen
within places seen = filter (is_seen_within places) seen

-- the changes are those within these places
pub changes_within : (places : List Place) (seen : List Seen) → changes_in (within places seen) ≡ filter (λ c. is_left places c.place) (changes_in seen)
changes_within places [] = refl
changes_within places (line side l ∷ seen) = changes_within places seen
changes_within places (change c ∷ seen) = by (is_left places c.place) (changes_within places seen)
  where
    by : (b : Bool) → changes_in (within places seen) ≡ filter (λ c. is_left places c.place) (changes_in seen)
        → changes_in (cond b (change c ∷ within places seen) (within places seen)) ≡ cond b (c ∷ filter (λ c. is_left places c.place) (changes_in seen)) (filter (λ c. is_left places c.place) (changes_in seen))
    by true e = ap (λ cs. c ∷ cs) e
    by false e = e

pub within_then : {T : Type 0} (takes : T → List Seen → T → Type 0) (joined : (t u v : T) (first then : List Seen) → takes t first u → takes u then v → takes t (first ++ then) v)
    (ps qs rs : List Place) (t u v : T) (first then : List Seen)
    → (qs ≡ ps) × takes t (within ps first) u → (rs ≡ qs) × takes u (within qs then) v
    → (rs ≡ ps) × takes t (within ps (first ++ then)) v
within_then takes joined ps qs rs t u v first then p q = (
  q.0 ∙ p.0,
  subst (λ seen. takes t seen v) (sym (filter-append (is_seen_within ps) first then))
      (joined t u v _ _ p.1 (subst (λ places. takes u (within places then) v) p.0 q.1)),
)
