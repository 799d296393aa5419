-- How one more place moves the comparison of two reports.
use Rattle.std.proofs.Common.{◌≡◌, ◌≢◌, ◌⊎◌, inl, inr, ℕ, List, [], ◌∷◌, ◌++◌, Bool, Option, Some, None, IfSome, All, map, sym, ap, subst, ◌∙◌, refl, append-nil}
use Rattle.std.proofs.lemmas.{List.Concat.{flat_map-append}, Option.{IfSome_then}}
use Rattle.std.proofs.lemmas.List.Elements.{All-append, All-cons, All-nil, All-head, All-tail, All-weaker}
use Rattle.std.specs.{Prelude.{flat_map}, Io.KnownBytes.{IsAtEnd}}
use Rattle.std.specs.declared.cmp.Ordering.TheVariants.{Less}
use Rattle.ocfl_tree.specs.{Place.{Text, Place, place_cmp}, Ascending.{IsBeforeAll, IsAscending}}
use Rattle.ocfl_tree.proofs.Orders.{place_cmp_total, not_below_itself}
use Rattle.ocfl_report.specs.{Line.{Line}, Text.{lines_text}, declared.line.Line.{Line as MadeLine}}
use Rattle.ocfl_separators.specs.Splits.{HasText, AreLines}
use Rattle.ocfl_separators.proofs.Reports.{none_read}
use Rattle.ocfl_compare.specs.{Changes.{is_shut}, Seen.{Seen, all_seen}, Compared.{IsReport, IsAnswered}}
use Rattle.ocfl_compare.specs.CompareStop.{StopsRightly}
use Rattle.ocfl_compare.specs.Internal.Reading.{IsReading, HasRead, IsBelow, IsAt, IsNextPlace, ReadStopsRightly, last_place}
use Rattle.ocfl_compare.specs.Internal.Turns.{AreTaken, Group, IsGroup, group_seen, first_place, leads_to, leads_from, shut_after, below_shut, AreFollowed, IsShutBy, IsHalf, IsSoFar, before_stop, now_stop}
use Rattle.ocfl_compare.specs.declared.question.Question.{Question}
use Rattle.ocfl_compare.specs.declared.reading.ReadStop.{ReadStop}
use Rattle.ocfl_compare.specs.declared.reading.ReadStop.TheVariants.{Line as BadLine, Failed, Output, Memory}
use Rattle.ocfl_compare.proofs.Around.{shut_more, followed_more, groups_said}

-- ---- places

below_next : (q p : Place) (next : Option MadeLine) → place_cmp q p ≡ Less → IsBelow p next → IsBelow q next
below_next q p None e h = tt
below_next q p (Some l) e h = place_cmp_total.trans q p l.place e h

below_at : (q p : Place) (next : Option MadeLine) → IsBelow q next → IsAt p next → place_cmp q p ≡ Less
below_at q p None h a = absurd a
below_at q p (Some l) h a = subst (λ x. place_cmp q x ≡ Less) (sym a) h

-- a next line that is beyond its place is another one
moved : (p : Place) (first next : Option MadeLine) → IsAt p first → IsBelow p next → next ≡ first → ⊥
moved p first next a h e = by first a (subst (IsBelow p) e h)
  where
    by : (o : Option MadeLine) → IsAt p o → IsBelow p o → ⊥
    by None a h = a
    by (Some l) a h = not_below_itself place_cmp_total p (subst (λ x. place_cmp p x ≡ Less) (sym a) h)

before_one : (x : Place) (gs : List Group) (g : Group) → IsBeforeAll place_cmp x (map (λ h. h.place) gs) → place_cmp x g.place ≡ Less → IsBeforeAll place_cmp x (map (λ h. h.place) (gs ++ g ∷ []))
before_one x [] g h e = (e, tt)
before_one x (f ∷ gs) g h e = (h.0, before_one x gs g h.1 e)

ascend_one : (gs : List Group) (g : Group) → IsAscending place_cmp (map (λ h. h.place) gs) → All (λ h. place_cmp h.place g.place ≡ Less) gs → IsAscending place_cmp (map (λ h. h.place) (gs ++ g ∷ []))
ascend_one [] g h k = (tt, tt)
ascend_one (f ∷ gs) g h k =
    let P : Group → Type 0 = λ x. place_cmp x.place g.place ≡ Less in
    (before_one f.place gs g h.0 (All-head P f gs k), ascend_one gs g h.1 (All-tail P f gs k))

flat_one : {A : Type 0} (f : Group → List A) (gs : List Group) (g : Group) → flat_map f (gs ++ g ∷ []) ≡ flat_map f gs ++ f g
flat_one f gs g = flat_map-append f gs (g ∷ []) ∙ ap (λ t. flat_map f gs ++ t) (append-nil (f g))

-- ---- one half

half_more : (lines : Group → List Line) (gs : List Group) (g : Group) (all left after : Option Text) (first next : Option MadeLine) (count k : ℕ)
    → AreTaken g.place all after (flat_map lines gs) (lines g) first next k → IsBelow g.place next → All (λ f. place_cmp f.place g.place ≡ Less) gs
    → IsHalf lines (gs ++ g ∷ []) all after next k
half_more lines gs g all left after first next count k t below less = record {
  reading = subst (λ ls. HasRead all after ls next k) (sym (flat_one lines gs g)) t.reading;
  below = All-append (λ f. IsBelow f.place next) gs (g ∷ []) (All-weaker (λ f. place_cmp f.place g.place ≡ Less) (λ f. IsBelow f.place next) (λ f e. below_next f.place g.place next e below) gs less)
      (All-cons (λ f. IsBelow f.place next) g [] below (All-nil (λ f. IsBelow f.place next)));
}

less_than : (p : Place) (gs : List Group) (next : Option MadeLine) → All (λ f. IsBelow f.place next) gs → IsAt p next → All (λ f. place_cmp f.place p ≡ Less) gs
less_than p gs next h a = All-weaker (λ f. IsBelow f.place next) (λ f. place_cmp f.place p ≡ Less) (λ f b. below_at f.place p next b a) gs h

-- ---- both

abbrev group_of : Place → Bool → Bool → List Line → List Line → Group
group_of p shut has_lines was is = record { place = p; in_shut = shut; has_lines = has_lines; before = was; now = is }

module _ {T : Type 0} (Takes : T → List Seen → T → Type 0) (joined : (t u v : T) (first then : List Seen) → Takes t first u → Takes u then v → Takes t (first ++ then) v)
    (asked : Question) (left : List Place) (p : Place) (b c d n m o : Option Text) (w x y : T) (b_next b_then n_next n_then : Option MadeLine) (b_count b_more n_count n_more : ℕ) (shut : Option Place)
    (next : IsNextPlace (Some p) b_next n_next) (h : IsSoFar asked left b c b_next b_count n m n_next n_count shut (λ cs. Takes w cs x)) where
  pub place_more : (was is : List Line) (in_shut has_lines : Bool) (after : Option Place) → AreTaken p b d (flat_map (λ g. g.before) h.groups) was b_next b_then b_more
      → AreTaken p n o (flat_map (λ g. g.now) h.groups) is n_next n_then n_more
      → IsBelow p b_then → IsBelow p n_then → in_shut ≡ leads_from shut p → has_lines ≡ leads_to p (last_place n_then) → after ≡ shut_after shut p (is_shut was is)
      → Takes x (group_seen asked left (group_of p in_shut has_lines was is)) y
      → IsSoFar asked left b d b_then b_more n o n_then n_more after (λ cs. Takes w cs y)
  place_more was is in_shut has_lines after b_taken n_taken b_below n_below known lines shut_is said = record {
    groups = h.groups ++ g ∷ [];
    before = half_more (λ g. g.before) h.groups g b c d b_next b_then b_count b_more b_taken b_below less;
    now = half_more (λ g. g.now) h.groups g n m o n_next n_then n_count n_more n_taken n_below less;
    done = record {
      are = All-append IsGroup h.groups (g ∷ []) h.done.are (All-cons IsGroup g [] (record { before = b_taken.here; now = n_taken.here; some = some next.0 b_taken.some n_taken.some }) (All-nil IsGroup));
      ascend = ascend_one h.groups g h.done.ascend less;
      followed = followed_more h.groups g (last_place n_next) (last_place n_then) h.done.followed (first_is is n_taken.here n_taken.some) lines;
      shuts = subst (IsShutBy (h.groups ++ g ∷ [])) (sym shut_is) (shut_more h.groups g shut less h.done.shuts known);
      taken = subst (λ cs. Takes w cs y) (sym (flat_one (group_seen asked left) h.groups g)) (joined w x y (flat_map (group_seen asked left) h.groups) (group_seen asked left g) h.done.taken said);
    };
  }
    where
      g : Group
      g = group_of p in_shut has_lines was is

      less_by : IsAt p b_next ⊎ IsAt p n_next → All (λ f. place_cmp f.place p ≡ Less) h.groups
      less_by (inl a) = less_than p h.groups b_next h.before.below a
      less_by (inr a) = less_than p h.groups n_next h.now.below a

      less : All (λ f. place_cmp f.place p ≡ Less) h.groups
      less = less_by next.0

      some : IsAt p b_next ⊎ IsAt p n_next → ((was ≢ []) × IsAt p b_next) ⊎ ((was ≡ []) × (b_then ≡ b_next)) → ((is ≢ []) × IsAt p n_next) ⊎ ((is ≡ []) × (n_then ≡ n_next)) → (was ≢ []) ⊎ (is ≢ [])
      some (inl a) (inl s) t = inl s.0
      some (inl a) (inr e) t = absurd (moved p b_next b_then a b_below e.1)
      some (inr a) s (inl t) = inr t.0
      some (inr a) s (inr e) = absurd (moved p n_next n_then a n_below e.1)

      at_place : (o : Option MadeLine) → IsAt p o → Some p ≡ last_place o
      at_place None a = absurd a
      at_place (Some l) a = ap (λ q. Some q) a

      first_is : (ls : List Line) → All (λ l. p ≡ l.place) ls → ((ls ≢ []) × IsAt p n_next) ⊎ ((ls ≡ []) × (n_then ≡ n_next))
          → first_place (group_of p in_shut has_lines was ls ∷ []) (last_place n_then) ≡ last_place n_next
      first_is [] a (inl s) = absurd (s.0 refl)
      first_is [] a (inr e) = ap last_place e.1
      first_is (l ∷ ls) a (inl s) = ap (λ q. Some q) (sym (All-head (λ k. p ≡ k.place) l ls a)) ∙ at_place n_next s.1
      first_is (l ∷ ls) a (inr e) = absurd (filled e.0)
        where
          filled : l ∷ ls ≡ [] → ⊥
          filled z = cc

-- ---- the beginning and the end

pub nothing_read : (all : Option Text) (next : Option MadeLine) (count : ℕ) → next ≡ None → count ≡ 0 → IsReading all all [] next count
nothing_read all next count e f =
    subst (λ o. IsReading all all [] o count) (sym e)
    (record { lines = record { texts = All-nil HasText; order = tt }; read = none_read all; counted = f })

pub begun : (asked : Question) (left : List Place) (b c n m : Option Text) (Taken : List Seen → Type 0) (b_next n_next : Option MadeLine) (b_count n_count : ℕ) (shut : Option Place) → HasRead b c [] b_next b_count → HasRead n m [] n_next n_count
    → shut ≡ None → Taken [] → IsSoFar asked left b c b_next b_count n m n_next n_count shut Taken
begun asked left b c n m Taken b_next n_next b_count n_count shut h k e none = record {
  groups = [];
  before = record { reading = h; below = All-nil (λ g. IsBelow g.place b_next) };
  now = record { reading = k; below = All-nil (λ g. IsBelow g.place n_next) };
  done = record {
    are = All-nil IsGroup;
    ascend = tt;
    followed = tt;
    shuts = subst (IsShutBy []) (sym e) (record { ahead = λ p a. refl; among = tt; behind = All-nil (λ g. g.in_shut ≡ below_shut [] g.place) });
    taken = none;
  };
}

whole : (all left : Option Text) (ls : List Line) (count : ℕ) → IsReading all left ls None count → IfSome all (λ b. IsAtEnd left) → IfSome all (λ b. IsReport b ls)
whole None left ls count h end = tt
whole (Some b) None ls count h end = absurd h.read
whole (Some b) (Some rest) ls count h end = record {
  are = subst AreLines (append-nil ls) h.lines;
  is = h.read ∙ (λ i. lines_text (append-nil ls i) ++ end i) ∙ append-nil (lines_text ls);
}

pub compared : (asked : Question) (left : List Place) (b c n m : Option Text) (Taken : List Seen → Type 0) (b_next n_next : Option MadeLine) (b_count n_count : ℕ) (shut : Option Place) → IsNextPlace None b_next n_next
    → IsSoFar asked left b c b_next b_count n m n_next n_count shut Taken → IfSome b (λ s. IfSome n (λ t. IsAnswered asked left s t Taken))
compared asked left b c n m Taken b_next n_next b_count n_count shut next h =
    let was = flat_map (λ g. g.before) h.groups in
    let is = flat_map (λ g. g.now) h.groups in
    let b_read : IsReading b c was None b_count = subst (λ o. IsReading b c was o b_count) next.0 h.before.reading.reading in
    let n_read : IsReading n m is None n_count = subst (λ o. IsReading n m is o n_count) next.1 h.now.reading.reading in
    both b n (whole b c was b_count b_read (h.before.reading.end next.0)) (whole n m is n_count n_read (h.now.reading.end next.1))
    (subst Taken (groups_said asked left h.groups h.done.are h.done.ascend (subst (λ o. AreFollowed h.groups (last_place o)) next.1 h.done.followed) shut h.done.shuts) h.done.taken)
  where
    both : (k l : Option Text) → IfSome k (λ s. IsReport s (flat_map (λ g. g.before) h.groups)) → IfSome l (λ t. IsReport t (flat_map (λ g. g.now) h.groups))
        → Taken (all_seen asked left (flat_map (λ g. g.before) h.groups) (flat_map (λ g. g.now) h.groups)) → IfSome k (λ s. IfSome l (λ t. IsAnswered asked left s t Taken))
    both None l r s a = tt
    both (Some k) None r s a = tt
    both (Some k) (Some l) r s a = record { before = flat_map (λ g. g.before) h.groups; now = flat_map (λ g. g.now) h.groups; is_before = r; is_now = s; taken = a }

-- ---- stops

-- a report stops as its reader does, whichever of the two it is
stops_so : (k l : Text) (s : ReadStop) → (ReadStopsRightly k s → StopsRightly k l (before_stop s)) × (ReadStopsRightly l s → StopsRightly k l (now_stop s))
stops_so k l (BadLine i) = (λ h. h, λ h. h)
stops_so k l Failed = (λ h. tt, λ h. tt)
stops_so k l Output = (λ h. tt, λ h. tt)
stops_so k l Memory = (λ h. tt, λ h. tt)

pub before_stops : (b n : Option Text) (s : ReadStop) → IfSome b (λ k. ReadStopsRightly k s) → IfSome b (λ k. IfSome n (λ l. StopsRightly k l (before_stop s)))
before_stops b None s h = IfSome_then b h (λ k r. tt)
before_stops b (Some l) s h = IfSome_then b h (λ k. (stops_so k l s).0)

pub now_stops : (b n : Option Text) (s : ReadStop) → IfSome n (λ k. ReadStopsRightly k s) → IfSome b (λ k. IfSome n (λ l. StopsRightly k l (now_stop s)))
now_stops None n s h = tt
now_stops (Some k) n s h = IfSome_then n h (λ l. (stops_so k l s).1)
