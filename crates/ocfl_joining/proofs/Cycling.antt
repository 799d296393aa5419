-- One more cycle that was joined or passed by.
use Rattle.std.proofs.Common.{◌≡◌, ◌⊎◌, inl, inr, ℕ, ◌+◌, ◌-◌, ◌<◌, ◌≤◌, List, [], ◌∷◌, ◌++◌, length, Bool, true, false, Option, Some, None, refl, sym, ap, subst, ◌∙◌, add-one, append-nil, append_assoc, length-append, arith}
use Rattle.std.specs.Prelude.{◌==◌, ◌&&◌, not, max, flat_map, if◌then◌else◌}
use Rattle.std.proofs.lemmas.Grind.{flat_map-append}
use Rattle.ocfl_tree.specs.Place.{Text}
use Rattle.ocfl_say.specs.Said.{Said, Grows}
use Rattle.ocfl_say.proofs.Outputs.{grows_none}
use Rattle.ocfl_joining.specs.Cycles.{SeenCycles, Round, passed, ended, stopped, Comes, ComesTo, IsStopped, IsBeside, IsEarlier, IsHeard, IsLast, MayCome, NamesAs, AreEarlier, AreJoined, SaysStop, have_all, is_there, is_due, is_none, last_part, look_of, whole_of, made_of, oldest, end_by, end_of, end_text, ends_of, with_said, said_by}
use Rattle.ocfl_joining.specs.{Failing.{more_of}, Missing.{part_count}, Reports.{Seen}, Status.{status_of}, Stops.{IsCallStop, IsStopRight, IsUpTo}}
use Rattle.ocfl_joining.specs.declared.{failing.JoinEnd.{JoinEnd}, joining.JoinStop.{JoinStop}, status.CycleEnd.{CycleEnd}}
use Rattle.ocfl_joining.proofs.Stopping.{at_none, call_right, right_more}
use Rattle.ocfl_joining.specs.Internal.Cycling.{AreTried, Joins, JoinsNone, TriesEarlier, TriesLast}

pub have_more : (closed : ℕ → ℕ → Bool) (n cycle : ℕ) → have_all closed (n + 1) cycle ≡ (have_all closed n cycle && closed cycle (n + 1))
have_more closed n cycle = ap (λ m. have_all closed m cycle) (add-one n)

-- ---- one cycle

pub same_beside : (cycle : ℕ) (old mid new : SeenCycles) → mid ≡ old → IsBeside cycle mid new → IsBeside cycle old new
same_beside cycle old mid new same b = subst (λ s. IsBeside cycle s new) same b

pub all_beside : (cycle : ℕ) (old new : SeenCycles) → new ≡ old → IsBeside cycle old new
all_beside cycle old new same = record {
  separators = ap (λ s. s.separators) same;
  parts = ap (λ s. s.parts) same;
  closed = ap (λ s. s.closed) same;
  packed = ap (λ s. s.packed) same;
  path = ap (λ s. s.path) same;
  word = ap (λ s. s.word) same;
  there = ap (λ s. s.there) same;
  others = λ other apart. ap (λ s. s.reports other) same;
}

pub none_joined : (parts cycle : ℕ) (old new : SeenCycles) (why : JoinStop) → new ≡ old → IsCallStop (IsUpTo parts) why → JoinsNone parts cycle old new why
none_joined parts cycle old new why same call = record {
  noted = ap (λ s. s.noted) same;
  may = inl (ap (λ s. (s.reports cycle).put) same, subst (λ s. Grows old.said s.said) (sym same) (grows_none old.said));
  right = call_right parts (last_part old parts cycle) old.separators (old.reports cycle) why (omega arith) call;
  beside = all_beside cycle old new same;
}

-- nothing of it was asked for a part
pub none_looked : (cycle : ℕ) (old new : SeenCycles) (why : JoinStop) → new ≡ old → IsCallStop (λ _. ⊥) why → JoinsNone 0 cycle old new why
none_looked cycle old new why same call = none_joined 0 cycle old new why same (at_none 0 why call)

pub none_then : (parts cycle : ℕ) (old mid new : SeenCycles) (why : JoinStop) → mid ≡ old → JoinsNone 0 cycle mid new why → JoinsNone parts cycle old new why
none_then parts cycle old mid new why same n = let m = subst (λ s. JoinsNone 0 cycle s new why) same n in record {
  noted = m.noted;
  may = m.may;
  right = right_more (last_part old 0 cycle) (last_part old parts cycle) old.separators (old.reports cycle) why (omega arith) m.right;
  beside = m.beside;
}

named_as : (names : Bool) (whole : Option Bool) → NamesAs names (end_of names whole)
named_as names None = refl
named_as names (Some whole) = tt

pub joins_of : (cycle : ℕ) (made whole : Option Bool) (names : Bool) (old new : SeenCycles) (end : CycleEnd) (status : ℕ)
    → ComesTo old.separators (old.parts cycle) cycle made (end_of names whole) (old.reports cycle) (new.reports cycle)
    → new.noted ≡ old.noted ++ end_text old.separators (old.parts cycle) cycle (old.path cycle) (end_of names whole)
    → IsHeard old.separators (old.word cycle) made (end_of names whole) (old.reports cycle) old.said new.said → end ≡ end_of names whole → status ≡ status_of end → Joins cycle made names old new status
joins_of cycle made whole names old new end status c n h e s = record {
  end = end_of names whole;
  text = end_text old.separators (old.parts cycle) cycle (old.path cycle) (end_of names whole);
  comes = record { named = named_as names whole; comes = c; said = refl; heard = h };
  noted = n;
  status_is = s ∙ ap status_of e;
}

pub none_of : (cycle : ℕ) (old new : SeenCycles) (why : JoinStop) → new.noted ≡ old.noted
    → MayCome old.separators (old.parts cycle) cycle (old.word cycle) (old.reports cycle) (new.reports cycle) old.said new.said
    → IsStopRight (part_count old.separators (old.parts cycle)) old.separators (old.reports cycle) why → IsBeside cycle old new → JoinsNone 0 cycle old new why
none_of cycle old new why silent may right b = record {
  noted = silent;
  may = may;
  right = right_more (part_count old.separators (old.parts cycle)) (last_part old 0 cycle) old.separators (old.reports cycle) why (omega arith) right;
  beside = b;
}

pub joins_then : (cycle : ℕ) (made other : Option Bool) (names named : Bool) (old mid new : SeenCycles) (status : ℕ) → mid ≡ old → made ≡ other → names ≡ named
    → Joins cycle made names mid new status → Joins cycle other named old new status
joins_then cycle made other names named old mid new status same e f j =
    subst (λ m. Joins cycle m named old new status) e
    (subst (λ n. Joins cycle made n old new status) f
    (subst (λ s. Joins cycle made names s new status) same j))

pub passed_by : (parts cycle : ℕ) (old new : SeenCycles) → new ≡ old → is_due old parts cycle ≡ false → TriesEarlier parts cycle old new (record { status = 0; said = true })
passed_by parts cycle old new same e = record {
  round = passed;
  is = (e, (ap (λ s. s.reports cycle) same, ap (λ s. s.said) same));
  noted = ap (λ s. s.noted) same ∙ sym (append-nil old.noted);
  result_is = refl;
  beside = all_beside cycle old new same;
}

pub due_joined : (parts cycle : ℕ) (old mid new : SeenCycles) (status : ℕ) → mid ≡ old → is_due old parts cycle ≡ true → Joins cycle None false mid new status → IsBeside cycle mid new
    → TriesEarlier parts cycle old new (record { status = status; said = true })
due_joined parts cycle old mid new status same e j b = let k = subst (λ s. Joins cycle None false s new status) same j in record {
  round = ended k.end k.text;
  is = (e, k.comes);
  noted = k.noted;
  result_is = λ i. record { status = k.status_is i; said = true };
  beside = same_beside cycle old mid new same b;
}

-- it stopped, and then why was said
module _ (parts cycle : ℕ) (old mid new : SeenCycles) (why : JoinStop) (result : JoinEnd) (n : JoinsNone parts cycle old mid why) (text : Text) (says : SaysStop cycle why result text) (same : new ≡ with_said text mid) where
  stops_then : IsStopped old parts cycle why result text (new.reports cycle) old.said new.said
  stops_then = record {
    may = subst (λ s. MayCome old.separators (old.parts cycle) cycle (old.word cycle) (old.reports cycle) (s.reports cycle) old.said s.said) (sym same) n.may;
    right = n.right;
    says = says;
  }

  noted_then : new.noted ≡ old.noted ++ text
  noted_then = ap (λ s. s.noted) same ∙ ap (λ t. t ++ text) n.noted

  beside_then : IsBeside cycle old new
  beside_then = record {
    separators = ap (λ s. s.separators) same ∙ n.beside.separators;
    parts = ap (λ s. s.parts) same ∙ n.beside.parts;
    closed = ap (λ s. s.closed) same ∙ n.beside.closed;
    packed = ap (λ s. s.packed) same ∙ n.beside.packed;
    path = ap (λ s. s.path) same ∙ n.beside.path;
    word = ap (λ s. s.word) same ∙ n.beside.word;
    there = ap (λ s. s.there) same ∙ n.beside.there;
    others = λ other apart. ap (λ s. s.reports other) same ∙ n.beside.others other apart;
  }

pub earlier_failed : (parts cycle : ℕ) (old mid new : SeenCycles) (why : JoinStop) (result : JoinEnd) → JoinsNone parts cycle old mid why → (text : Text) × (SaysStop cycle why result text × (new ≡ with_said text mid))
    → TriesEarlier parts cycle old new result
earlier_failed parts cycle old mid new why result n said = record {
  round = stopped why result said.0;
  is = stops_then parts cycle old mid new why result n said.0 said.1.0 said.1.1;
  noted = noted_then parts cycle old mid new why result n said.0 said.1.0 said.1.1;
  result_is = refl;
  beside = beside_then parts cycle old mid new why result n said.0 said.1.0 said.1.1;
}

pub last_joined : (cycle : ℕ) (old new : SeenCycles) (status : ℕ) → Joins cycle (made_of old cycle) (is_none (made_of old cycle)) old new status → IsBeside cycle old new
    → TriesLast cycle old new (record { status = status; said = true })
last_joined cycle old new status j b = record { round = ended j.end j.text; is = j.comes; noted = j.noted; result_is = λ i. record { status = j.status_is i; said = true }; beside = b }

pub last_failed : (cycle : ℕ) (old mid new : SeenCycles) (why : JoinStop) (result : JoinEnd) → JoinsNone 0 cycle old mid why → (text : Text) × (SaysStop cycle why result text × (new ≡ with_said text mid))
    → TriesLast cycle old new result
last_failed cycle old mid new why result n said = record {
  round = stopped why result said.0;
  is = stops_then 0 cycle old mid new why result n said.0 said.1.0 said.1.1;
  noted = noted_then 0 cycle old mid new why result n said.0 said.1.0 said.1.1;
  result_is = refl;
  beside = beside_then 0 cycle old mid new why result n said.0 said.1.0 said.1.1;
}

-- ---- one after the other

-- a joining that began with the reports of the cycle as they were before
module _ (a b : SeenCycles) (cycle : ℕ) (separators : b.separators ≡ a.separators) (parts : b.parts ≡ a.parts) (path : b.path ≡ a.path) (word : b.word ≡ a.word) (reports : b.reports cycle ≡ a.reports cycle)
    (new : Seen) (before after : Said) where
  comes_same : (made : Option Bool) (names : Bool) (end : CycleEnd) (text : Text) → Comes b cycle made names end text new before after → Comes a cycle made names end text new before after
  comes_same made names end text c = record {
    named = c.named;
    comes = subst (λ r. ComesTo a.separators (a.parts cycle) cycle made end r new) reports
        (subst (λ p. ComesTo a.separators (p cycle) cycle made end (b.reports cycle) new) parts
        (subst (λ s. ComesTo s (b.parts cycle) cycle made end (b.reports cycle) new) separators c.comes));
    said = c.said ∙ (λ i. end_text (separators i) (parts i cycle) cycle (path i cycle) end);
    heard = subst (λ r. IsHeard a.separators (a.word cycle) made end r before after) reports
        (subst (λ w. IsHeard a.separators (w cycle) made end (b.reports cycle) before after) word
        (subst (λ s. IsHeard s (b.word cycle) made end (b.reports cycle) before after) separators c.heard));
  }

  stops_same : (count : ℕ) (why : JoinStop) (result : JoinEnd) (text : Text) → IsStopped b count cycle why result text new before after → IsStopped a count cycle why result text new before after
  stops_same count why result text h = record {
    may = subst (λ r. MayCome a.separators (a.parts cycle) cycle (a.word cycle) r new before after) reports
        (subst (λ w. MayCome a.separators (a.parts cycle) cycle (w cycle) (b.reports cycle) new before after) word
        (subst (λ p. MayCome a.separators (p cycle) cycle (b.word cycle) (b.reports cycle) new before after) parts
        (subst (λ s. MayCome s (b.parts cycle) cycle (b.word cycle) (b.reports cycle) new before after) separators h.may)));
    right = subst (λ r. IsStopRight (last_part a count cycle) a.separators r why) reports
        (subst (λ p. IsStopRight (max count (part_count a.separators (p cycle))) a.separators (b.reports cycle) why) parts
        (subst (λ s. IsStopRight (max count (part_count s (b.parts cycle))) s (b.reports cycle) why) separators h.right));
    says = h.says;
  }

  earlier_same : (count : ℕ) (r : Round) → is_due b count cycle ≡ is_due a count cycle → IsEarlier b count cycle new before after r → IsEarlier a count cycle new before after r
  earlier_same count passed e h = (sym e ∙ h.0, (h.1.0 ∙ reports, h.1.1))
  earlier_same count (ended end text) e h = (sym e ∙ h.0, comes_same None false end text h.1)
  earlier_same count (stopped why result text) e h = stops_same count why result text h

  last_same : (r : Round) → made_of b cycle ≡ made_of a cycle → IsLast b cycle new before after r → IsLast a cycle new before after r
  last_same passed e h = h
  last_same (ended end text) e h = comes_same (made_of a cycle) (is_none (made_of a cycle)) end text (subst (λ m. Comes b cycle m (is_none m) end text new before after) e h)
  last_same (stopped why result text) e h = stops_same 0 why result text h

-- later joinings leave the reports of these cycles as they are
earlier_still : (s : SeenCycles) (now later : ℕ → Seen) (parts first : ℕ) (before after : Said) (rounds : List Round) → ((other : ℕ) → first ≤ other → other < first + length rounds → later other ≡ now other)
    → AreEarlier s now parts first before after rounds → AreEarlier s later parts first before after rounds
earlier_still s now later parts first before after [] same h = h
earlier_still s now later parts first before after (r ∷ rounds) same h = (
  h.0,
  (
    subst (λ n. IsEarlier s parts first n before h.0 r) (sym (same first (omega arith) (omega arith))) h.1.0,
    earlier_still s now later parts (first + 1) h.0 after rounds (λ other from below. same other (omega (arith, from)) (omega (arith, below))) h.1.1,
  ),
)

earlier_more : (s : SeenCycles) (new : ℕ → Seen) (parts first next : ℕ) (before mid after : Said) (rounds : List Round) (r : Round) → AreEarlier s new parts first before mid rounds → first + length rounds ≡ next
    → IsEarlier s parts next (new next) mid after r → AreEarlier s new parts first before after (rounds ++ r ∷ [])
earlier_more s new parts first next before mid after [] r h e is =
    let number : next ≡ first = omega (arith, e) in
    (after, (subst (λ n. IsEarlier s parts n (new n) before after r) number (subst (λ m. IsEarlier s parts next (new next) m after r) h is), refl))
earlier_more s new parts first next before mid after (q ∷ rounds) r h e is = (h.0, (h.1.0, earlier_more s new parts (first + 1) next h.0 mid after rounds r h.1.1 (omega (arith, e)) is))

and_true : (p : Bool) → (p && true) ≡ p
and_true true = refl
and_true false = refl

and_assoc : (p q r : Bool) → ((p && q) && r) ≡ (p && (q && r))
and_assoc true q r = refl
and_assoc false q r = refl

max_assoc : (a b c : ℕ) → max (max a b) c ≡ max a (max b c)
max_assoc a b c = omega arith

ends_more : (rounds : List Round) (r : Round) → ends_of (rounds ++ r ∷ []) ≡ more_of (ends_of rounds) (end_by r)
ends_more [] r = λ i. record { status = (let e : max (end_by r).status 0 ≡ max 0 (end_by r).status = omega arith in e) i; said = and_true (end_by r).said i }
ends_more (q ∷ rounds) r =
    ap (more_of (end_by q)) (ends_more rounds r)
    ∙ (λ i. record { status = sym (max_assoc (end_by q).status (ends_of rounds).status (end_by r).status) i; said = sym (and_assoc (end_by q).said (ends_of rounds).said (end_by r).said) i })

said_more : (rounds : List Round) (r : Round) → flat_map said_by (rounds ++ r ∷ []) ≡ flat_map said_by rounds ++ said_by r
said_more rounds r = flat_map-append said_by rounds (r ∷ []) ∙ ap (λ js. flat_map said_by rounds ++ js) (append-nil (said_by r))

pub none_tried : (parts first : ℕ) (s : SeenCycles) → AreTried parts first first s s (record { status = 0; said = true })
none_tried parts first s = record {
  rounds = [];
  are = refl;
  all = omega arith;
  noted = sym (append-nil s.noted);
  result_is = refl;
  separators = refl;
  known = refl;
  closed = refl;
  packed = refl;
  path = refl;
  word = refl;
  there = refl;
  others = λ other out. refl;
}

-- the cycle that comes next is as it was
next_same : (parts first next : ℕ) (old mid : SeenCycles) (status : JoinEnd) → AreTried parts first next old mid status → mid.reports next ≡ old.reports next
next_same parts first next old mid status h = h.others next (λ from below. omega (arith, below))

pub tried_more : (parts first next : ℕ) (old mid new : SeenCycles) (status one all : JoinEnd) → AreTried parts first next old mid status → TriesEarlier parts next mid new one → all ≡ more_of status one
    → AreTried parts first (next + 1) old new all
tried_more parts first next old mid new status one all h t e = let still = next_same parts first next old mid status h in record {
  rounds = h.rounds ++ t.round ∷ [];
  are = earlier_more old new.reports parts first next old.said mid.said new.said h.rounds t.round
      (earlier_still old mid.reports new.reports parts first old.said mid.said h.rounds (λ other from below. t.beside.others other (λ same. let n = h.all in omega (arith, n, below, same))) h.are) h.all
      (earlier_same old mid next h.separators h.known h.path h.word still (new.reports next) mid.said new.said parts t.round
      (λ i. not (is_there (look_of (h.packed i next) (still i).put)) && have_all (h.closed i) parts next) t.is);
  all = let n = h.all in let m = length-append h.rounds (t.round ∷ []) in omega (arith, n, m);
  noted = t.noted ∙ ap (λ js. js ++ said_by t.round) h.noted ∙ append_assoc old.noted (flat_map said_by h.rounds) (said_by t.round)
      ∙ ap (λ js. old.noted ++ js) (sym (said_more h.rounds t.round));
  result_is = e ∙ (λ i. more_of (h.result_is i) (t.result_is i)) ∙ sym (ends_more h.rounds t.round);
  separators = t.beside.separators ∙ h.separators;
  known = t.beside.parts ∙ h.known;
  closed = t.beside.closed ∙ h.closed;
  packed = t.beside.packed ∙ h.packed;
  path = t.beside.path ∙ h.path;
  word = t.beside.word ∙ h.word;
  there = t.beside.there ∙ h.there;
  others = λ other out.
      t.beside.others other (λ same. out (let n = h.all in omega (arith, n, same)) (omega (arith, same)))
      ∙ h.others other (λ from below. out from (omega (arith, below)));
}

-- ---- and the last one

outside : (first next last : ℕ) → (next ≤ last) ⊎ (next ≡ first) → first ≤ last → last < next → ⊥
outside first next last (inl le) from below = omega (arith, le, below)
outside first next last (inr same) from below = omega (arith, same, from, below)

count_is : (first next last count : ℕ) → (next ≤ last) ⊎ (next ≡ first) → last ≤ next → first + count ≡ next → count ≡ last - first
count_is first next last count (inl le) over e = omega (arith, le, over, e)
count_is first next last count (inr same) over e = omega (arith, same, over, e)

-- no earlier cycle is the last one
not_last : (first next last other : ℕ) → (next ≤ last) ⊎ (next ≡ first) → first ≤ other → other < next → other ≡ last → ⊥
not_last first next last other bound from below same = outside first next last bound (omega (arith, from, same)) (omega (arith, below, same))

not_tried : (first next last other : ℕ) → (next ≤ last) ⊎ (next ≡ first) → (other < first) ⊎ (last < other) → first ≤ other → other < next → ⊥
not_tried first next last other bound (inl before) from below = omega (arith, before, from)
not_tried first next last other (inl le) (inr behind) from below = omega (arith, le, behind, below)
not_tried first next last other (inr same) (inr behind) from below = omega (arith, same, from, below)

pub all_joined : (parts last next : ℕ) (old mid new : SeenCycles) (status one all : JoinEnd) → (next ≤ last) ⊎ (next ≡ oldest last) → last ≤ next
    → AreTried parts (oldest last) next old mid status → TriesLast last mid new one → all ≡ more_of status one → AreJoined old new parts last all
all_joined parts last next old mid new status one all bound over h t e = let still = h.others last (outside (oldest last) next last bound) in record {
  rounds = h.rounds;
  end = t.round;
  heard = mid.said;
  are = earlier_still old mid.reports new.reports parts (oldest last) old.said mid.said h.rounds
      (λ other from below. t.beside.others other (not_last (oldest last) next last other bound from (let n = h.all in omega (arith, n, below)))) h.are;
  all = count_is (oldest last) next last (length h.rounds) bound over h.all;
  end_is = last_same old mid last h.separators h.known h.path h.word still (new.reports last) mid.said new.said t.round (λ i. if last == 0 then None else whole_of (look_of (h.packed i last) (still i).put)) t.is;
  noted = t.noted ∙ ap (λ js. js ++ said_by t.round) h.noted ∙ append_assoc old.noted (flat_map said_by h.rounds) (said_by t.round)
      ∙ ap (λ js. old.noted ++ js) (sym (said_more h.rounds t.round));
  result_is = e ∙ (λ i. more_of (h.result_is i) (t.result_is i)) ∙ sym (ends_more h.rounds t.round);
  there = t.beside.there ∙ h.there;
  others = λ other out apart. t.beside.others other apart ∙ h.others other (not_tried (oldest last) next last other bound out);
}
