-- From what a joining promises to what came of a cycle.
use Rattle.std.proofs.Common.{◌≡◌, ◌≢◌, ◌⊎◌, inl, inr, ℕ, zero, suc, ◌+◌, ◌==◌, Bool, true, false, All, List, [], ◌∷◌, ◌++◌, Option, Some, None, refl, sym, ◌∙◌, ap, subst, append-nil, arith, length, length-append}
use Rattle.std.specs.Prelude.{Result, Ok, Err, IfErr, IfOk, OnErr, OnOk, ◌&&◌, ◌||◌, flat_map, get_or, if◌then◌else◌, is_some, map}
use Rattle.std.specs.List.{Contains}
use Rattle.std.proofs.lemmas.{Bool.{ne_eqb}, List.{length-map}}
use Rattle.std.proofs.lemmas.List.Elements.{All-cons, All-head, All-nil, All-tail}
use Rattle.ocfl_tree.specs.Place.{Text, Place}
use Rattle.ocfl_say.specs.Said.{Said, HasSaid, Grows}
use Rattle.ocfl_say.proofs.Outputs.{grows_none}
use Rattle.ocfl_disk.specs.{Names.{Stored}, PowerCut.{DiskState}}
use Rattle.ocfl_joining.specs.{Folders.{Folders, with_noted}, Reports.{Put, Rest, SameReports, Seen}}
use Rattle.ocfl_joining.specs.Cycles.{CanJoin, ComesTo, IsBeside, IsHeard, SeenCycles, MayCome, end_of, end_text, hindering_in, missing_in, with_said}
use Rattle.ocfl_joining.specs.Facts.{facts_at, known_by, known_parts}
use Rattle.ocfl_joining.specs.Joined.{IsJoined, IsRight, IsWordSaid, MayJoin, all_parts, joined_of, joined_text}
use Rattle.ocfl_joining.specs.Missing.{KnownPart, are_right, hindering_of, missing_of, numbers, part_count, root_of}
use Rattle.ocfl_joining.specs.Saying.{lacking_text, missing_text}
use Rattle.ocfl_joining.specs.Stops.{IsCallStop, IsChangedRightly, IsMissingRightly, IsOfPart, IsStopRight, IsUpTo, is_missing, is_output}
use Rattle.ocfl_joining.specs.declared.{facts.Facts.{Facts}, joining.{Joined.{Joined}, JoinStop.{JoinStop}}}
use Rattle.ocfl_joining.specs.declared.joining.JoinStop.TheVariants.{Missing, Changed, Part, Output, Unsaid, Memory}
use Rattle.ocfl_joining.specs.declared.status.CycleEnd.TheVariants as cycle_end
use Rattle.ocfl_join_disk.specs.Shown.{PartFiles, joined_in, none_if, others_in, reports_in, rest_in, seen_making, text_in}
use Rattle.ocfl_join_disk.specs.Comparing.{all_in, found_of, seen_comparing}
use Rattle.ocfl_join_disk.specs.Cycles.{EndsAs, StopsAs, cycles_in, cycles_on, said_of}
use Rattle.ocfl_join_disk.specs.Internal.Coming.{HasCome, HasEnded}
use Rattle.ocfl_join_disk.proofs.Naming.{is_among}
use Rattle.ocfl_joining.proofs.Stopping.{at_none, call_right, right_as, stop_right, stops_as}

-- ---- the same closed reports, seen otherwise

module _ (separators : List Place) (parts : List (Option KnownPart)) (cycle : ℕ) (s r : Seen) (bytes : s.bytes ≡ r.bytes) (marks : s.marks ≡ r.marks) where
  all_right_as : (ks : List ℕ) → All (IsRight separators s) ks → All (IsRight separators r) ks
  all_right_as [] h = All-nil (IsRight separators r)
  all_right_as (k ∷ ks) h = All-cons (IsRight separators r) k ks (right_as separators s r bytes marks k (All-head (IsRight separators s) k ks h)) (all_right_as ks (All-tail (IsRight separators s) k ks h))

  joined_as : (whole : Bool) → joined_of separators whole s ≡ joined_of separators whole r
  joined_as whole = λ i. record { whole = whole; bytes = flat_map (bytes i) (all_parts separators) }

  can_join : (whole : Bool) → hindering_in separators parts cycle ≡ [] → whole ≡ are_right (missing_in separators parts cycle) → All (IsRight separators s) (all_parts separators) → CanJoin separators parts cycle whole r
  can_join whole none is right = record { none_hinders = none; whole_is = is; right = all_right_as (all_parts separators) right }

  text_as : joined_text separators s ≡ joined_text separators r
  text_as = λ i. flat_map (bytes i) (all_parts separators)

  -- what is made is put beside what was there
  module _ (t q : Seen) (old : s.put ≡ r.put) (new : t.put ≡ q.put) (before after : Said) (word : Bool → Text → Text) (word_is : s.word ≡ (λ whole text. Some (word whole text))) where
    hears : (whole : Bool) → IsJoined separators whole s t before after → HasSaid (word whole (joined_text separators r)) before after
    hears whole j = subst (λ text. HasSaid (word whole text) before after) text_as (subst (λ f. IsWordSaid (f whole (joined_text separators s)) before after) word_is j.could.said)

    makes : (whole : Bool) → hindering_in separators parts cycle ≡ [] → whole ≡ are_right (missing_in separators parts cycle) → IsJoined separators whole s t before after
        → ComesTo separators parts cycle None (cycle_end.IsJoined whole) r q
    makes whole none is j = (can_join whole none is j.could.right, sym new ∙ j.put ∙ (λ i. old i ++ joined_as whole i ∷ []))

    may_make : hindering_in separators parts cycle ≡ [] → MayJoin separators (are_right (missing_in separators parts cycle)) s t before after → Grows before after → MayCome separators parts cycle word r q before after
    may_make none (inl e) grew = inl (sym new ∙ e ∙ old, grew)
    may_make none (inr j) grew =
        let whole = are_right (missing_in separators parts cycle) in
        let made = makes whole none refl j in
        inr (record { whole = whole; could = made.0; put = made.1; said = hears whole j })

    all_made : (joined : Result Joined JoinStop) → OnOk joined (hindering_in separators parts cycle ≡ []) → IfOk joined (λ j. j.whole ≡ are_right (missing_in separators parts cycle))
        → IfOk joined (λ j. IsJoined separators j.whole s t before after) → IfOk joined (λ j. ComesTo separators parts cycle None (cycle_end.IsJoined j.whole) r q)
    all_made (Ok j) none is h = makes j.whole none is h
    all_made (Err stop) none is h = tt

    all_heard : (joined : Result Joined JoinStop) → IfOk joined (λ j. IsJoined separators j.whole s t before after) → IfOk joined (λ j. IsHeard separators word None (cycle_end.IsJoined j.whole) r before after)
    all_heard (Ok j) h = hears j.whole h
    all_heard (Err stop) h = tt

    may_made : (joined : Result Joined JoinStop) → IfErr joined (λ stop. is_output stop ≡ true → hindering_in separators parts cycle ≡ []) → IfErr joined (λ stop. is_output stop ≡ false → t.put ≡ s.put)
        → OnErr joined (MayJoin separators (are_right (missing_in separators parts cycle)) s t before after) → Grows before after → OnErr joined (MayCome separators parts cycle word r q before after)
    may_made (Ok j) none unput may grew = tt
    may_made (Err stop) none unput may grew = by (is_output stop) refl
      where
        by : (b : Bool) → is_output stop ≡ b → MayCome separators parts cycle word r q before after
        by true e = may_make (none e) may grew
        by false e = inl (sym new ∙ unput e ∙ old, grew)

    changed_made : (joined : Result Joined JoinStop) → IfErr joined (IsChangedRightly separators s) → IfErr joined (IsChangedRightly separators r)
    changed_made (Ok j) h = tt
    changed_made (Err stop) h = stops_as separators s r bytes marks stop h

    unput_made : (joined : Result Joined JoinStop) → IfErr joined (λ stop. is_output stop ≡ false → t.put ≡ s.put) → IfErr joined (λ stop. is_missing stop ≡ true → q.put ≡ r.put)
    unput_made (Ok j) unput = tt
    unput_made (Err (Missing found)) unput = λ e. sym new ∙ unput refl ∙ old
    unput_made (Err (Changed found)) unput = λ e. cc
    unput_made (Err (Part part why)) unput = λ e. cc
    unput_made (Err (Output why)) unput = λ e. cc
    unput_made (Err Unsaid) unput = λ e. cc
    unput_made (Err Memory) unput = λ e. cc

-- ---- over a disk

module _ {D : Type 0} (files : D → PartFiles) (state : D → DiskState) (separators : List Place) (parts : List (Option KnownPart)) (cycle : ℕ) (root : Text) (root_is : root ≡ root_of parts)
    (disk d0 d1 d : D) (c0 c1 : ℕ) (left0 left1 : Text) (before after : Said) (e0 : c0 ≡ cycle) (f0 : d0 ≡ disk) (f1 : d ≡ d1) (joined : Result Joined JoinStop)
    (none : OnOk joined (hindering_of separators root cycle parts ≡ [])) (whole : IfOk joined (λ j. j.whole ≡ are_right (missing_of separators root cycle parts)))
    (missing : IfErr joined (IsMissingRightly (hindering_of separators root cycle parts))) (unhindered : IfErr joined (λ stop. is_output stop ≡ true → hindering_of separators root cycle parts ≡ [])) (part : IfErr joined (IsOfPart separators))
    (grew : Grows before after) (unheard : IfErr joined (λ stop. is_missing stop ≡ true → after ≡ before)) where
  abbrev was : Seen
  was = reports_in cycle (files disk) (state disk).seen

  abbrev is_now : Seen
  is_now = reports_in cycle (files d) (state d).seen

  none_is : OnOk joined (hindering_in separators parts cycle ≡ [])
  none_is = subst (λ x. OnOk joined (hindering_of separators x cycle parts ≡ [])) root_is none

  whole_is : IfOk joined (λ j. j.whole ≡ are_right (missing_in separators parts cycle))
  whole_is = subst (λ x. IfOk joined (λ j. j.whole ≡ are_right (missing_of separators x cycle parts))) root_is whole

  missing_is : IfErr joined (IsMissingRightly (hindering_in separators parts cycle))
  missing_is = subst (λ x. IfErr joined (IsMissingRightly (hindering_of separators x cycle parts))) root_is missing

  unhindered_is : IfErr joined (λ stop. is_output stop ≡ true → hindering_in separators parts cycle ≡ [])
  unhindered_is = subst (λ x. IfErr joined (λ stop. is_output stop ≡ true → hindering_of separators x cycle parts ≡ [])) root_is unhindered

  bytes_are : (files d0).folders.bytes c0 ≡ (files disk).folders.bytes cycle
  bytes_are = λ i. (files (f0 i)).folders.bytes (e0 i)

  marks_are : (files d0).folders.marks c0 ≡ (files disk).folders.marks cycle
  marks_are = λ i. (files (f0 i)).folders.marks (e0 i)

  abbrev word_at : ℕ → D → Bool → Text → Option Text
  word_at c x = λ whole text. Some ((files x).folders.word c whole text)

  words_are : word_at c0 d0 ≡ word_at cycle disk
  words_are = λ i. word_at (e0 i) (f0 i)

  module _ (m0 m1 : Option ℕ) (b0 b1 : Text) where
    abbrev first_seen : Seen
    first_seen = seen_making c0 (files d0) left0 (state d0).seen m0 b0

    abbrev last_seen : Seen
    last_seen = seen_making c1 (files d1) left1 (state d1).seen m1 b1

    pub made_came : SameReports first_seen last_seen → IfErr joined (IsChangedRightly separators first_seen) → IfOk joined (λ j. IsJoined separators j.whole first_seen last_seen before after) → IfErr joined (λ stop. is_output stop ≡ false → last_seen.put ≡ first_seen.put)
        → OnErr joined (MayJoin separators (are_right (missing_of separators root cycle parts)) first_seen last_seen before after) → HasCome separators parts cycle None (files disk) (files d) (state disk).seen (state d).seen before after joined
    made_came same changed is unput may = record {
      comes = all_made separators parts cycle first_seen was bytes_are marks_are last_seen is_now old new before after word words_are joined none_is whole_is is;
      heard = all_heard separators parts cycle first_seen was bytes_are marks_are last_seen is_now old new before after word words_are joined is;
      missing = missing_is;
      unheard = unheard;
      unput = unput_made separators parts cycle first_seen was bytes_are marks_are last_seen is_now old new before after word words_are joined unput;
      may = may_made separators parts cycle first_seen was bytes_are marks_are last_seen is_now old new before after word words_are joined unhindered_is unput
          (subst (λ x. OnErr joined (MayJoin separators (are_right (missing_of separators x cycle parts)) first_seen last_seen before after)) root_is may) grew;
      changed = changed_made separators parts cycle first_seen was bytes_are marks_are last_seen is_now old new before after word words_are joined changed;
      part = part;
      folders = (λ i. (files (f1 i)).folders) ∙ ap (λ x. x.folders) same.rest ∙ (λ i. (files (f0 i)).folders);
      others = (λ i. others_in (sym now i) (state (f1 i)).seen) ∙ ap (λ x. x.others) same.rest ∙ (λ i. others_in (e0 i) (state (f0 i)).seen);
    }
      where
        now : c1 ≡ cycle
        now = ap (λ x. x.cycle) same.rest ∙ e0

        word : Bool → Text → Text
        word = (files disk).folders.word cycle

        old : first_seen.put ≡ was.put
        old = λ i. joined_in (e0 i) (state (f0 i)).seen

        new : last_seen.put ≡ is_now.put
        new = λ i. joined_in (now i) (state (sym f1 i)).seen

  module _ (asked w0 w1 : Bool) (g0 : w0 ≡ asked) (compared0 compared1 : Text) (found0 found1 : Bool) (nothing : found0 ≡ false) where
    abbrev first_found : Seen
    first_found = seen_comparing c0 w0 (files d0) left0 (state d0).seen compared0 found0

    abbrev last_found : Seen
    last_found = seen_comparing c1 w1 (files d1) left1 (state d1).seen compared1 found1

    same_bool : (a b : Bool) → Some a ≡ Some b → a ≡ b
    same_bool a b e = cc

    found_is : (b w : Bool) (text : Option Text) (p : Put) → found_of b w text ≡ p ∷ [] → (p.whole ≡ w) × (text ≡ Some p.bytes)
    found_is false w text p e = absurd cc
    found_is true w None p e = absurd cc
    found_is true w (Some u) p e = let same : record { whole = w; bytes = u } ≡ p = ap (λ ps. get_or ps 0 p) e in (sym (ap (λ x. x.whole) same), ap (λ x. Some x.bytes) same)

    module _ (same : SameReports first_found last_found) where
      now_is : c1 ≡ cycle
      now_is = ap (λ x. x.cycle) same.rest ∙ e0

      as_asked : w1 ≡ asked
      as_asked = same_bool w1 w0 (ap (λ x. x.made) same.rest) ∙ g0

      still : (other : ℕ) → joined_in other (state d1).seen ≡ joined_in other (state disk).seen
      still other = ap (λ x. x.others other) same.rest ∙ (λ i. joined_in other (state (f0 i)).seen)

      unchanged : (other : ℕ) → joined_in other (state d).seen ≡ joined_in other (state disk).seen
      unchanged other = (λ i. joined_in other (state (f1 i)).seen) ∙ still other

      finds : (j : Bool) → CanJoin separators parts cycle j was → IsJoined separators j first_found last_found before after → ComesTo separators parts cycle (Some asked) (cycle_end.IsJoined j) was is_now
      finds j can is =
          let put : found_of found1 w1 (text_in c1 w1 (state d1).seen) ≡ joined_of separators j first_found ∷ [] = is.put ∙ ap (λ b. found_of b w0 (text_in c0 w0 (state d0).seen) ++ joined_of separators j first_found ∷ []) nothing in
          let found = found_is found1 w1 (text_in c1 w1 (state d1).seen) (joined_of separators j first_found) put in
          let among = is_among c1 w1 (state d1).seen (joined_of separators j first_found).bytes found.1 in
          let it : record { whole = w1; bytes = (joined_of separators j first_found).bytes } ≡ joined_of separators j was =
          (λ i. record { whole = sym found.0 i; bytes = (joined_of separators j first_found).bytes }) ∙ joined_as separators parts cycle first_found was bytes_are marks_are j in
          let list : joined_in c1 (state d1).seen ≡ joined_in cycle (state disk).seen = ap (λ n. joined_in n (state d1).seen) now_is ∙ still cycle in
          (can, (sym as_asked ∙ sym found.0, (subst (λ p. Contains (joined_in cycle (state disk).seen) p) it (subst (λ ps. Contains ps (record { whole = w1; bytes = (joined_of separators j first_found).bytes })) list among), unchanged cycle)))

      all_found : (result : Result Joined JoinStop) → OnOk result (hindering_in separators parts cycle ≡ []) → IfOk result (λ j. j.whole ≡ are_right (missing_in separators parts cycle))
          → IfOk result (λ j. IsJoined separators j.whole first_found last_found before after) → IfOk result (λ j. ComesTo separators parts cycle (Some asked) (cycle_end.IsJoined j.whole) was is_now)
      all_found (Ok j) n w is = finds j.whole (can_join separators parts cycle first_found was bytes_are marks_are j.whole n w is.could.right) is
      all_found (Err stop) n w is = tt

      none_put : (result : Result Joined JoinStop) → IfErr result (λ stop. is_missing stop ≡ true → is_now.put ≡ was.put)
      none_put (Ok j) = tt
      none_put (Err stop) = λ e. unchanged cycle

      changed_as_was : (result : Result Joined JoinStop) → IfErr result (IsChangedRightly separators first_found) → IfErr result (IsChangedRightly separators was)
      changed_as_was (Ok j) h = tt
      changed_as_was (Err stop) h = stops_as separators first_found was bytes_are marks_are stop h

      may_none : (result : Result Joined JoinStop) → OnErr result (MayCome separators parts cycle ((files disk).folders.word cycle) was is_now before after)
      may_none (Ok j) = tt
      may_none (Err stop) = inl (unchanged cycle, grew)

      none_heard : (result : Result Joined JoinStop) → IfOk result (λ j. IsJoined separators j.whole first_found last_found before after)
          → IfOk result (λ j. IsHeard separators ((files disk).folders.word cycle) (Some asked) (cycle_end.IsJoined j.whole) was before after)
      none_heard (Ok j) is = is.could.said
      none_heard (Err stop) is = tt

      pub compared_came : IfErr joined (IsChangedRightly separators first_found) → IfOk joined (λ j. IsJoined separators j.whole first_found last_found before after) → HasCome separators parts cycle (Some asked) (files disk) (files d) (state disk).seen (state d).seen before after joined
      compared_came changed is = record {
        comes = all_found joined none_is whole_is is;
        heard = none_heard joined is;
        missing = missing_is;
        unheard = unheard;
        unput = none_put joined;
        may = may_none joined;
        changed = changed_as_was joined changed;
        part = part;
        folders = (λ i. (files (f1 i)).folders) ∙ ap (λ x. x.folders) same.rest ∙ (λ i. (files (f0 i)).folders);
        others = λ i other. none_if (cycle == other) (unchanged other i);
      }

-- ---- and what is said then

pub none_noted : (f : Folders) → f ≡ with_noted [] f
none_noted f = λ i. record { bytes = f.bytes; marks = f.marks; found = f.found; has_said = f.has_said; packed = f.packed; word = f.word; path = f.path; noted = sym (append-nil f.noted) i }

module _ (separators : List Place) (k : List (Option KnownPart)) (cycle : ℕ) (made : Option Bool) (names : Bool) (files mid now : PartFiles) (s t : Stored) (before after : Said) (same : mid.folders ≡ files.folders) where
  abbrev word_is : Bool → Text → Text
  word_is = files.folders.word cycle

  abbrev path_is : Text
  path_is = files.folders.path cycle false

  comes_end : (joined : Result Joined JoinStop) (whole : Result (Option Bool) JoinStop) → IfOk joined (λ j. ComesTo separators k cycle made (cycle_end.IsJoined j.whole) (reports_in cycle files s) (reports_in cycle mid t))
      → IfErr joined (IsMissingRightly (hindering_in separators k cycle)) → IfErr joined (λ stop. is_missing stop ≡ true → joined_in cycle t ≡ joined_in cycle s) → IfOk whole (EndsAs joined)
      → IfOk whole (λ w. ComesTo separators k cycle made (end_of names w) (reports_in cycle files s) (reports_in cycle now t))
  comes_end joined (Err stop) h m u e = tt
  comes_end (Ok j) (Ok w) h m u e = subst (λ v. ComesTo separators k cycle made (end_of names v) (reports_in cycle files s) (reports_in cycle now t)) (sym e) h
  comes_end (Err (Missing found)) (Ok w) h m u e = subst (λ v. ComesTo separators k cycle made (end_of names v) (reports_in cycle files s) (reports_in cycle now t)) (sym e.0) (m.1, u refl)
  comes_end (Err (Changed found)) (Ok w) h m u e = absurd (let no = e.1 in cc)
  comes_end (Err (Part part why)) (Ok w) h m u e = absurd (let no = e.1 in cc)
  comes_end (Err (Output why)) (Ok w) h m u e = absurd (let no = e.1 in cc)
  comes_end (Err Unsaid) (Ok w) h m u e = absurd (let no = e.1 in cc)
  comes_end (Err Memory) (Ok w) h m u e = absurd (let no = e.1 in cc)

  said_end : (joined : Result Joined JoinStop) (whole : Result (Option Bool) JoinStop) → IfErr joined (IsMissingRightly (hindering_in separators k cycle)) → IfOk whole (EndsAs joined)
      → OnOk whole (now.folders ≡ with_noted (said_of k cycle names (mid.folders.path cycle false) joined) mid.folders) → IfOk whole (λ w. now.folders ≡ with_noted (end_text separators k cycle path_is (end_of names w)) files.folders)
  said_end joined (Err stop) m e said = tt
  said_end (Ok j) (Ok w) m e said =
      said ∙ (λ i. with_noted (said_of k cycle names ((same i).path cycle false) (Ok j)) (same i)) ∙ ap (λ v. with_noted (end_text separators k cycle path_is (end_of names v)) files.folders) (sym e)
  said_end (Err (Missing found)) (Ok w) m e said =
      said ∙ (λ i. with_noted (if names then missing_text cycle k (m.0 i) else []) (same i)) ∙ ap (λ v. with_noted (end_text separators k cycle path_is (end_of names v)) files.folders) (sym e.0)
  said_end (Err (Changed found)) (Ok w) m e said = absurd (let no = e.1 in cc)
  said_end (Err (Part part why)) (Ok w) m e said = absurd (let no = e.1 in cc)
  said_end (Err (Output why)) (Ok w) m e said = absurd (let no = e.1 in cc)
  said_end (Err Unsaid) (Ok w) m e said = absurd (let no = e.1 in cc)
  said_end (Err Memory) (Ok w) m e said = absurd (let no = e.1 in cc)

  at_no_part : (stop : JoinStop) → IsCallStop (λ _. ⊥) stop → IsStopRight (part_count separators k) separators (reports_in cycle files s) stop
  at_no_part stop h = call_right 0 (part_count separators k) separators (reports_in cycle files s) stop (omega arith) (at_none 0 stop h)

  heard_end : (joined : Result Joined JoinStop) (whole : Result (Option Bool) JoinStop) → IfOk joined (λ j. IsHeard separators word_is made (cycle_end.IsJoined j.whole) (reports_in cycle files s) before after)
      → IfErr joined (λ stop. is_missing stop ≡ true → after ≡ before) → IfOk whole (EndsAs joined) → IfOk whole (λ w. IsHeard separators word_is made (end_of names w) (reports_in cycle files s) before after)
  heard_end joined (Err stop) h u e = tt
  heard_end (Ok j) (Ok w) h u e = subst (λ v. IsHeard separators word_is made (end_of names v) (reports_in cycle files s) before after) (sym e) h
  heard_end (Err (Missing found)) (Ok w) h u e = subst (λ v. IsHeard separators word_is made (end_of names v) (reports_in cycle files s) before after) (sym e.0) (u refl)
  heard_end (Err (Changed found)) (Ok w) h u e = absurd (let no = e.1 in cc)
  heard_end (Err (Part part why)) (Ok w) h u e = absurd (let no = e.1 in cc)
  heard_end (Err (Output why)) (Ok w) h u e = absurd (let no = e.1 in cc)
  heard_end (Err Unsaid) (Ok w) h u e = absurd (let no = e.1 in cc)
  heard_end (Err Memory) (Ok w) h u e = absurd (let no = e.1 in cc)

  may_of : (over : Option Bool) (w : Bool) → ComesTo separators k cycle over (cycle_end.IsJoined w) (reports_in cycle files s) (reports_in cycle mid t)
      → IsHeard separators word_is over (cycle_end.IsJoined w) (reports_in cycle files s) before after → MayCome separators k cycle word_is (reports_in cycle files s) (reports_in cycle now t) before after
  may_of None w h heard = inr (record { whole = w; could = h.0; put = h.1; said = heard })
  may_of (Some asked) w h heard = inl (h.1.1.1, subst (Grows before) (sym heard) (grows_none before))

  -- what is said after it is no joined report
  may_now : MayCome separators k cycle word_is (reports_in cycle files s) (reports_in cycle mid t) before after → MayCome separators k cycle word_is (reports_in cycle files s) (reports_in cycle now t) before after
  may_now (inl none) = inl none
  may_now (inr p) = inr (record { whole = p.whole; could = p.could; put = p.put; said = p.said })

  may_end : (joined : Result Joined JoinStop) (whole : Result (Option Bool) JoinStop) → IfOk joined (λ j. ComesTo separators k cycle made (cycle_end.IsJoined j.whole) (reports_in cycle files s) (reports_in cycle mid t))
      → IfOk joined (λ j. IsHeard separators word_is made (cycle_end.IsJoined j.whole) (reports_in cycle files s) before after)
      → OnErr joined (MayCome separators k cycle word_is (reports_in cycle files s) (reports_in cycle mid t) before after) → OnErr whole (MayCome separators k cycle word_is (reports_in cycle files s) (reports_in cycle now t) before after)
  may_end joined (Ok w) h heard m = tt
  may_end (Ok j) (Err stop) h heard m = may_of made j.whole h heard
  may_end (Err why) (Err stop) h heard m = may_now m

  why_end : (joined : Result Joined JoinStop) (whole : Result (Option Bool) JoinStop) → IfErr joined (IsChangedRightly separators (reports_in cycle files s)) → IfErr joined (IsOfPart separators)
      → IfErr whole (StopsAs joined) → IfErr whole (IsStopRight (part_count separators k) separators (reports_in cycle files s))
  why_end joined (Ok w) h p e = tt
  why_end (Ok j) (Err stop) h p e = at_no_part stop e
  why_end (Err why) (Err stop) h p (inl e) = at_no_part stop e
  why_end (Err why) (Err stop) h p (inr e) = subst (IsStopRight (part_count separators k) separators (reports_in cycle files s)) (sym e.1) (stop_right separators k (reports_in cycle files s) why e.0 h p)

  silent_end : (whole : Result (Option Bool) JoinStop) → OnErr whole (now.folders ≡ mid.folders) → OnErr whole (now.folders ≡ files.folders)
  silent_end (Ok w) silent = tt
  silent_end (Err stop) silent = silent ∙ same

pub has_ended : (separators : List Place) (facts : List (Option Facts)) (k : List (Option KnownPart)) (cycle : ℕ) (made : Option Bool) (names : Bool) (files first mid now : PartFiles) (s begun t end : Stored) (before after : Said)
    (joined : Result Joined JoinStop) (whole : Result (Option Bool) JoinStop) → k ≡ known_parts files.folders facts cycle → first ≡ files → begun ≡ s → HasCome separators k cycle made first mid begun t before after joined
    → IfOk whole (EndsAs joined) → OnOk whole (now.folders ≡ with_noted (said_of k cycle names (mid.folders.path cycle false) joined) mid.folders) → OnErr whole (now.folders ≡ mid.folders) → IfErr whole (StopsAs joined) → end ≡ t
    → HasEnded separators facts cycle made names files now s end before after whole
has_ended separators facts k cycle made names files first mid now s begun t end before after joined whole known same_files same_s come ends said silent stops last =
    subst (λ x. HasEnded separators facts cycle made names files now s x before after whole) (sym last) (record {
      comes = comes_end separators all cycle made names files mid now s t before after same joined whole here.comes here.missing here.unput ends;
      heard = heard_end separators all cycle made names files mid now s t before after same joined whole here.heard here.unheard ends;
      said = said_end separators all cycle made names files mid now s t before after same joined whole here.missing ends
          (subst (λ x. OnOk whole (now.folders ≡ with_noted (said_of x cycle names (mid.folders.path cycle false) joined) mid.folders)) known said);
      may = may_end separators all cycle made names files mid now s t before after same joined whole here.comes here.heard here.may;
      why = why_end separators all cycle made names files mid now s t before after same joined whole here.changed here.part stops;
      silent = silent_end separators all cycle made names files mid now s t before after same whole silent;
      others = here.others;
    })
  where
    all : List (Option KnownPart)
    all = known_parts files.folders facts cycle

    here : HasCome separators all cycle made files mid s t before after joined
    here = subst (λ x. HasCome separators all cycle made files mid x t before after joined) same_s
        (subst (λ x. HasCome separators all cycle made x mid begun t before after joined) same_files
        (subst (λ x. HasCome separators x cycle made first mid begun t before after joined) known come))

    same : mid.folders ≡ files.folders
    same = here.folders

length_numbers : (n : ℕ) → length (numbers n) ≡ n
length_numbers zero = refl
length_numbers (suc n) = let e = length_numbers n in let m = length-append (numbers n) ((n + 1) ∷ []) in omega (arith, e, m)

-- a call before the joining failed
pub has_failed : (separators : List Place) (facts : List (Option Facts)) (cycle : ℕ) (made : Option Bool) (names : Bool) (files now : PartFiles) (s t : Stored) (said : Said) (stop : JoinStop) → now ≡ files → t ≡ s
    → IsCallStop (IsUpTo (length facts)) stop → HasEnded separators facts cycle made names files now s t said said (Err stop)
has_failed separators facts cycle made names files now s t said stop same still call = record {
  comes = tt;
  heard = tt;
  said = tt;
  may = inl (ap (joined_in cycle) still, grows_none said);
  why =
      let known = length-map (numbers (length facts)) (λ number. known_by files.folders cycle number (facts_at facts number)) ∙ length_numbers (length facts) in
      call_right (length facts) (part_count separators (known_parts files.folders facts cycle)) separators (reports_in cycle files s) stop (omega (arith, known)) call;
  silent = ap (λ p. p.folders) same;
  others = ap (others_in cycle) still;
}

-- ---- seen as cycles

none_other : (b : Bool) (xs ys : List Put) → b ≡ false → none_if b xs ≡ none_if b ys → xs ≡ ys
none_other b xs ys e h = sym (ap (λ c. none_if c xs) e) ∙ h ∙ ap (λ c. none_if c ys) e

-- a text more is no other folder
known_same : (text : Text) (f : Folders) (cycle number : ℕ) (facts : Option Facts) → known_by (with_noted text f) cycle number facts ≡ known_by f cycle number facts
known_same text f cycle number None = refl
known_same text f cycle number (Some facts) = refl

parts_same : (facts : List (Option Facts)) (text : Text) (f g : Folders) → g ≡ with_noted text f → known_parts g facts ≡ known_parts f facts
parts_same facts text f g same = ap (λ h. known_parts h facts) same ∙ (λ i cycle. map (λ number. known_same text f cycle number (facts_at facts number) i) (numbers (length facts)))

module _ (separators : List Place) (facts : List (Option Facts)) (files now : PartFiles) (text : Text) (same : now.folders ≡ with_noted text files.folders) (s t : Stored) (before after : Said) where
  abbrev cycles_before : SeenCycles
  cycles_before = cycles_in separators facts files s before

  abbrev cycles_after : SeenCycles
  cycles_after = cycles_in separators facts now t after

  pub beside_cycle : (cycle : ℕ) → others_in cycle t ≡ others_in cycle s → IsBeside cycle cycles_before cycles_after
  beside_cycle cycle others = record {
    separators = refl;
    parts = parts_same facts text files.folders now.folders same;
    closed = ap (λ f. (cycles_in separators facts (record { folders = f; opened = [] }) s before).closed) same;
    packed = ap (λ f. (cycles_in separators facts (record { folders = f; opened = [] }) s before).packed) same;
    path = ap (λ f. (cycles_in separators facts (record { folders = f; opened = [] }) s before).path) same;
    word = ap (λ f. f.word) same;
    there = refl;
    others = λ other apart.
        let put : joined_in other t ≡ joined_in other s = none_other (cycle == other) (joined_in other t) (joined_in other s) (ne_eqb cycle other (λ e. apart (sym e))) (λ i. others i other) in
        λ i. record {
          bytes = (same i).bytes other;
          marks = (same i).marks other;
          word = λ _ _. None;
          opened = [];
          left = [];
          made = [];
          put = put i;
          rest = (reports_in other files s).rest;
        };
  }

  pub said_cycles : t ≡ s → after ≡ before → cycles_after ≡ with_said text cycles_before
  said_cycles still silent = λ i. record {
    separators = separators;
    parts = parts_same facts text files.folders now.folders same i;
    closed = λ cycle part. is_some ((same i).found cycle part) && (same i).has_said cycle part;
    packed = λ cycle. (same i).packed cycle true || (same i).packed cycle false;
    path = λ cycle. (same i).path cycle false;
    word = (same i).word;
    reports = λ cycle. reports_in cycle (record { folders = same i; opened = [] }) (still i);
    noted = (same i).noted;
    said = silent i;
    there = true;
  }

-- ---- over a disk that is lent to the joining

module _ {D : Type 0} (files : D → PartFiles) (state : D → DiskState) (separators : List Place) (facts : List (Option Facts)) (cycle : ℕ) (made : Option Bool) (names : Bool) (disk last : D) (before after : Said) (whole : Result (Option Bool) JoinStop)
    (h : HasEnded separators facts cycle made names (files disk) (files last) (state disk).seen (state last).seen before after whole) (o n : Option D) (o_is : o ≡ Some disk) (n_is : n ≡ Some last) (separators_now : List Place) (facts_now : List (Option Facts)) (s_is : separators_now ≡ separators) (f_is : facts_now ≡ facts) where
  abbrev lent : SeenCycles
  lent = cycles_in separators facts (files disk) (state disk).seen before

  abbrev returned : SeenCycles
  returned = cycles_in separators facts (files last) (state last).seen after

  on : (P : SeenCycles → SeenCycles → Type 0) → P lent returned → P (cycles_on files state separators facts before o) (cycles_on files state separators_now facts_now after n)
  on P p = subst (λ x. P (cycles_on files state separators facts before x) (cycles_on files state separators_now facts_now after n)) (sym o_is)
      (subst (λ y. P lent y) (sym (λ i. cycles_on files state (s_is i) (f_is i) after (n_is i))) p)

  said_then : (w : Result (Option Bool) JoinStop) → IfOk w (λ v. (files last).folders ≡ with_noted (end_text separators (known_parts (files disk).folders facts cycle) cycle ((files disk).folders.path cycle false) (end_of names v)) (files disk).folders)
      → IfOk w (λ v. returned.noted ≡ lent.noted ++ end_text lent.separators (lent.parts cycle) cycle (lent.path cycle) (end_of names v))
  said_then (Ok v) same = ap (λ f. f.noted) same
  said_then (Err stop) same = tt

  silent_then : (w : Result (Option Bool) JoinStop) → OnErr w ((files last).folders ≡ (files disk).folders) → OnErr w (returned.noted ≡ lent.noted)
  silent_then (Ok v) e = tt
  silent_then (Err stop) e = ap (λ f. f.noted) e

  beside_then : (w : Result (Option Bool) JoinStop) → IfOk w (λ v. (files last).folders ≡ with_noted (end_text separators (known_parts (files disk).folders facts cycle) cycle ((files disk).folders.path cycle false) (end_of names v)) (files disk).folders)
      → OnErr w ((files last).folders ≡ (files disk).folders) → IsBeside cycle lent returned
  beside_then (Ok v) said silent = beside_cycle separators facts (files disk) (files last) _ said (state disk).seen (state last).seen before after cycle h.others
  beside_then (Err stop) said silent = beside_cycle separators facts (files disk) (files last) [] (silent ∙ none_noted (files disk).folders) (state disk).seen (state last).seen before after cycle h.others

  pub comes_seen : IfOk whole (λ w. ComesTo (cycles_on files state separators facts before o).separators ((cycles_on files state separators facts before o).parts cycle) cycle made (end_of names w)
      ((cycles_on files state separators facts before o).reports cycle) ((cycles_on files state separators_now facts_now after n).reports cycle))
  comes_seen = on (λ a b. IfOk whole (λ w. ComesTo a.separators (a.parts cycle) cycle made (end_of names w) (a.reports cycle) (b.reports cycle))) h.comes

  pub said_seen : IfOk whole (λ w. (cycles_on files state separators_now facts_now after n).noted ≡ (cycles_on files state separators facts before o).noted
      ++ end_text (cycles_on files state separators facts before o).separators ((cycles_on files state separators facts before o).parts cycle) cycle ((cycles_on files state separators facts before o).path cycle) (end_of names w))
  said_seen = on (λ a b. IfOk whole (λ w. b.noted ≡ a.noted ++ end_text a.separators (a.parts cycle) cycle (a.path cycle) (end_of names w))) (said_then whole h.said)

  pub heard_seen : IfOk whole (λ w. IsHeard (cycles_on files state separators facts before o).separators ((cycles_on files state separators facts before o).word cycle) made (end_of names w)
      ((cycles_on files state separators facts before o).reports cycle) (cycles_on files state separators facts before o).said (cycles_on files state separators_now facts_now after n).said)
  heard_seen = on (λ a b. IfOk whole (λ w. IsHeard a.separators (a.word cycle) made (end_of names w) (a.reports cycle) a.said b.said)) h.heard

  pub may_seen : OnErr whole (MayCome (cycles_on files state separators facts before o).separators ((cycles_on files state separators facts before o).parts cycle) cycle ((cycles_on files state separators facts before o).word cycle)
      ((cycles_on files state separators facts before o).reports cycle) ((cycles_on files state separators_now facts_now after n).reports cycle)
      (cycles_on files state separators facts before o).said (cycles_on files state separators_now facts_now after n).said)
  may_seen = on (λ a b. OnErr whole (MayCome a.separators (a.parts cycle) cycle (a.word cycle) (a.reports cycle) (b.reports cycle) a.said b.said)) h.may

  pub why_seen : IfErr whole (IsStopRight (part_count (cycles_on files state separators facts before o).separators ((cycles_on files state separators facts before o).parts cycle))
      (cycles_on files state separators facts before o).separators ((cycles_on files state separators facts before o).reports cycle))
  why_seen = on (λ a b. IfErr whole (IsStopRight (part_count a.separators (a.parts cycle)) a.separators (a.reports cycle))) h.why

  pub silent_seen : OnErr whole ((cycles_on files state separators_now facts_now after n).noted ≡ (cycles_on files state separators facts before o).noted)
  silent_seen = on (λ a b. OnErr whole (b.noted ≡ a.noted)) (silent_then whole h.silent)

  pub beside_seen : IsBeside cycle (cycles_on files state separators facts before o) (cycles_on files state separators_now facts_now after n)
  beside_seen = on (IsBeside cycle) (beside_then whole h.said h.silent)

-- a text more was said, and nothing else
pub said_on : {D : Type 0} (files : D → PartFiles) (state : D → DiskState) (separators : List Place) (facts : List (Option Facts)) (said : Said) (disk last : D) (o n : Option D) (text : Text) → o ≡ Some disk → n ≡ Some last
    → (files last).folders ≡ with_noted text (files disk).folders → (state last).seen ≡ (state disk).seen
    → cycles_on files state separators facts said n ≡ with_said text (cycles_on files state separators facts said o)
said_on files state separators facts said disk last o n text o_is n_is same still =
    ap (cycles_on files state separators facts said) n_is
    ∙ said_cycles separators facts (files disk) (files last) text same (state disk).seen (state last).seen said said still refl
    ∙ ap (λ x. with_said text (cycles_on files state separators facts said x)) (sym o_is)
