-- What several nights read, what of it is opened again, and where the next one begins.
use Rattle.std.proofs.Common.{◌≡◌, ◌≢◌, inl, inr, List, [], ◌∷◌, ◌++◌, refl, sym, ◌∙◌, ap, subst, true, false, arith}
use Rattle.std.proofs.lemmas.List.{append-nil}
use Rattle.std.specs.Prelude.{ℕ, Bool, flat_map}
use Rattle.ocfl_tree.specs.{Place.{Place, place_cmp}, Ascending.{IsAscending, IsAmong}, Store.{Store}}
use Rattle.ocfl_rules.proofs.BelowLaws.{ascends_append}
use Rattle.ocfl_cursor.specs.Cursor.{Cursor, State}
use Rattle.ocfl_scrub.specs.{Joining.{is_taken}, Running.{begun}}
use Rattle.ocfl_state.specs.{Checkpoint.{Checkpoint}, Content.{Content}}
use Rattle.ocfl_state.specs.declared.checkpoint_parts.Phase.TheVariants.{Open}
use Rattle.ocfl_report.specs.declared.further.Further.{Further}
use Rattle.ocfl_night.specs.{Again.{HasDone}, Beginning.{BeginsAt, Position, StandsAt, first, position, stored}, Ending.{cycle_of}, Promises.{IfThere}, Sound.{IsAt}}
use Rattle.ocfl_night.specs.Reading.{AreBeyond, AreReadOnce, IsRead, ReadsBeyond, came_to, reached, reached_in}
use Rattle.ocfl_terms.specs.declared.plan.Halt.{Halt}
use Rattle.ocfl_terms.specs.declared.plan.Halt.TheVariants as halt
use Rattle.ocfl_night.proofs.{Foreigners.{at_once}, Reading.{beyond_both, beyond_by, beyond_from, taken_below}}
use Rattle.ocfl_night_laws.specs.Readings.{AreOfOneCycle, IsReading, Reading}

-- ---- several nights

-- one that does not end the cycle
came_on : (end : Halt) (c : Cursor) → ((cycle : ℕ) → end ≢ halt.CycleEnded cycle) → came_to end c ≡ (begun c).state
came_on (halt.CycleEnded cycle) c other = absurd (other cycle refl)
came_on halt.TimeUp c other = refl
came_on halt.Spent c other = refl
came_on halt.Asked c other = refl
came_on (halt.Stopped why) c other = refl
came_on halt.RootChanged c other = refl
came_on (halt.Refused why) c other = refl
came_on (halt.Troubled why) c other = refl

-- of two such lists of places the second comes after the first
pub read_on : {there next : State} {ps qs : List Place} → there ≡ next → AreReadOnce there ps → AreBeyond next qs → IsAscending place_cmp qs → IsAscending place_cmp (ps ++ qs)
read_on {there} {next} {ps} {qs} same one after up =
    ascends_append place_cmp ps qs one.once up (λ p q i j. taken_below there p q (one.taken.each p i) (subst (λ (s : State). is_taken s q ≡ false) (sym same) (after.each q j)))

abbrev all_opened : List Reading → List Place
all_opened readings = flat_map (λ (x : Reading). x.opened) readings

module _ (r q : Reading) (are : IsReading r) (next : q.old.checkpoint ≡ r.new.checkpoint) (other : (cycle : ℕ) → r.end ≢ halt.CycleEnded cycle) where
  -- the next one begins with its checkpoint
  left_to : IsAt are.read.last q.old
  left_to = record { bytes = are.read.at.bytes; is = next ∙ are.read.at.is; text = are.read.at.text }

  came : came_to r.end are.read.last.cursor ≡ (begun are.read.last.cursor).state
  came = came_on r.end are.read.last.cursor other

-- what is opened from a night on comes after the checkpoint with which it begins
later_beyond : (r : Reading) (readings : List Reading) → AreOfOneCycle (r ∷ readings) → (k : Checkpoint) → IsAt k r.old → AreBeyond (begun k.cursor).state (all_opened (r ∷ readings))
later_beyond r [] are k here = beyond_by (append-nil r.opened) (are.beyond k here)
later_beyond r (q ∷ readings) are k here =
    let rest = later_beyond q readings are.3 are.0.read.last (left_to r q are.0 are.1 are.2) in
    beyond_both (are.0.beyond k here) (beyond_from (are.0.read.stays k here) (subst (λ (s : State). AreBeyond s (all_opened (q ∷ readings))) (sym (came r q are.0 are.1 are.2)) rest))

pub read_once : (readings : List Reading) → AreOfOneCycle readings → IsAscending place_cmp (flat_map (λ (x : Reading). x.opened) readings)
read_once [] are = tt
read_once (r ∷ []) are = subst (IsAscending place_cmp) (sym (append-nil r.opened)) (are.read.once are.unfailing).once
read_once (r ∷ q ∷ readings) are =
    read_on (came r q are.0 are.1 are.2) (are.0.read.once are.0.unfailing) (later_beyond q readings are.3 are.0.read.last (left_to r q are.0 are.1 are.2)) (read_once (q ∷ readings) are.3)

-- two of them
pub two_read : {s1 t1 s2 t2 : Store} {old mid new : Content} {one two : Halt} {ps qs : List Place} → IsRead s1 t1 one old mid ps → ReadsBeyond mid qs → IsRead s2 t2 two mid new qs → ((cycle : ℕ) → one ≢ halt.CycleEnded cycle) → t1.failures ≡ s1.failures → t2.failures ≡ s2.failures
    → IsAscending place_cmp (ps ++ qs)
two_read {one = one} read beyond then other well1 well2 = read_on (came_on one read.last.cursor other) (read.once well1) (beyond read.last read.at) (then.once well2).once

-- ---- what is opened again

-- not what the checkpoint that is there has taken
pub not_again : (cycle : ℕ) (taken qs : List Place) (c : Content) (k : Checkpoint) → IfThere c (HasDone cycle taken) → IsAt k c → k.phase ≡ Open → cycle_of k ≡ cycle → ReadsBeyond c qs → (p : Place) → IsAmong taken p → IsAmong qs p → ⊥
not_again cycle taken qs c k done at going same beyond p i j = by (done k at)
  where
    by : HasDone cycle taken k → ⊥
    by (inl less) = omega (arith, less, same)
    by (inr has) =
        let there : is_taken (reached k) p ≡ true = has.1.each p i in
        let not_there : is_taken (begun k.cursor).state p ≡ false = (beyond k at).each p j in
        let both : true ≡ false = sym there ∙ ap (λ ph. is_taken (reached_in ph k.cursor) p) going ∙ not_there in
        absurd (cc both)

-- ---- where the next one begins

pub begins_there : (further : Further) (create : Bool) (d e : Content) (start : Checkpoint) (p : Position) → BeginsAt further create e start → e.checkpoint ≡ d.checkpoint → StandsAt d p → position start ≡ p
begins_there further create d e start p (first is at) same stands = let there = stands.1.0.is in let none = is.none in absurd (cc (none, same, there))
begins_there further create d e start p (stored k found at) same stands =
    let there : IsAt stands.0 e = record { bytes = stands.1.0.bytes; is = same ∙ stands.1.0.is; text = stands.1.0.text } in
    at ∙ ap position (at_once found there) ∙ stands.1.1
