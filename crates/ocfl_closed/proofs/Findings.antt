-- Which changes were taken of a closed cycle.
use Rattle.std.proofs.Common.{◌≡◌, ℕ, List, [], ◌∷◌, ◌++◌, map, Bool, true, false, Option, Some, None, Result, OnOk, IfSome, Vec, Global, refl, sym, ap, subst, ◌∙◌}
use Rattle.std.specs.{Prelude.{filter, ◌||◌}, List.{list_any}, Option.{option_map}, Io.KnownBytes.{Appends}}
use Rattle.std.proofs.{KnownBytes.{Appends-nil}, lemmas.Bool.{false≢true}, lemmas.List.{map-append}, lemmas.List.Folds.{list_any-append}}
use Rattle.ocfl_tree.specs.Place.{Text, Place}
use Rattle.ocfl_compare.specs.{Changes.{comparison, is_left}, Seen.{Seen, changes_in, changes_seen}, Compared.{IsCompared}, Expected.{IsSearched, missing, missing_objects}, Gone.{gone_text}}
use Rattle.ocfl_compare.specs.declared.change.ChangeAt.{ChangeAt}
use Rattle.ocfl_compare.specs.Internal.Gones.{texts_joined}
use Rattle.ocfl_accounts.specs.{Cycle.{Cycle}, Kept.{Kept, no_accounts}, declared.pair.Pair.{Pair}}
use Rattle.ocfl_accounts.specs.Changes.{IsSince, IsSinceWhole, IsMissing, AreFound, Finds}
use Rattle.ocfl_messages.specs.declared.known.KnownEntry.{KnownEntry}
use Rattle.ocfl_report.specs.Line.{Line}
use Rattle.ocfl_words.specs.{Counted.{AreCounted, counted, is_news}, Kept.{none_kept, noted_from}, Noted.{Noted, changes_of, noted_in}}
use Rattle.ocfl_words.specs.{Held.{HasFound, AreHeld, Held, held_after, none_held}, News.{AreNews}}
use Rattle.ocfl_words.specs.declared.{changes.Changes.{Changes}, compared.ComparedLines.{ComparedLines}, findings.Findings.{Findings}, noting.Part.{Part}}
use Rattle.ocfl_closed.specs.{Files.{Files, kept_of}, Internal.{AllTaken, Took, SeenOf.{IsSeenMissing, IsSeenSince, IsSeenSinceWhole}, Takes.{within}}, Taken.{HasTaken, Stand}}
use Rattle.ocfl_closed.specs.Words.{AreNewsOf, AreOf, AreParts, AreSince, AreSinceWhole, Beside, HasText, IsAccount, IsAccountOf, News, Parts, all_of, counted_in, news_in, no_finding, no_parts, said_beside}
use Rattle.ocfl_closed.specs.declared.account.Account.{Account}
use Rattle.ocfl_closed.proofs.HeldIn.{news_compared, news_of_none, news_within}
use Rattle.ocfl_closed.proofs.NotedIn.{all_compared, changes_noted, changes_of_no_findings, changes_of_noted, changes_of_within, changes_seen_all, noted_missing, noted_whole, noted_within}

pub since_of : (k : Kept) (now before : Cycle) (left : List Place) (Taken : List Seen → Type 0) → left ≡ now.left ++ before.left
    → IsCompared left (k.reports before.cycle) (k.reports now.cycle) Taken → Took (IsSeenSince k now (Some before)) Taken
since_of k now before left Taken e c = by (subst (λ l. IsCompared l (k.reports before.cycle) (k.reports now.cycle) Taken) e c)
  where
    by : IsCompared (now.left ++ before.left) (k.reports before.cycle) (k.reports now.cycle) Taken → Took (IsSeenSince k now (Some before)) Taken
    by d = (_, (record { before = d.before; now = d.now; is_before = d.is_before; is_now = d.is_now; taken = refl }, d.taken))

-- what was seen of two reports that were compared
compared_seen : (left : List Place) (b n : Text) (Taken : List Seen → Type 0) → IsCompared left b n Taken → (seen : List Seen) × (Taken seen × IsCompared left b n (λ s. seen ≡ s))
compared_seen left b n Taken d = (_, (d.taken, record { before = d.before; now = d.now; is_before = d.is_before; is_now = d.is_now; taken = refl }))

pub since_whole_of : (k : Kept) (now whole : Cycle) (again : List Place) (Taken : List Seen → Type 0)
    → IsCompared now.left (k.reports whole.cycle) (k.reports now.cycle) (λ seen. Taken (within again seen)) → Took (IsSeenSinceWhole k now again (Some whole)) Taken
since_whole_of k now whole again Taken d = by (compared_seen now.left (k.reports whole.cycle) (k.reports now.cycle) (λ seen. Taken (within again seen)) d)
  where
    by : (seen : List Seen) × (Taken (within again seen) × IsCompared now.left (k.reports whole.cycle) (k.reports now.cycle) (λ s. seen ≡ s)) → Took (IsSeenSinceWhole k now again (Some whole)) Taken
    by c = (
      within again c.0,
      (
        record {
          before = c.1.1.before;
          now = c.1.1.now;
          is_before = c.1.1.is_before;
          is_now = c.1.1.is_now;
          taken = ap (within again) c.1.1.taken;
        },
        c.1.0,
      ),
    )

weaker_compared : (left : List Place) (b n : Text) (P Q : List Seen → Type 0) → ((seen : List Seen) → P seen → Q seen) → IsCompared left b n P → IsCompared left b n Q
weaker_compared left b n P Q f d = record { before = d.before; now = d.now; is_before = d.is_before; is_now = d.is_now; taken = f _ d.taken }

-- the same as the code has it
pub since_whole_within : (k : Kept) (now whole : Cycle) (again places after left : List Place) (cycle : ℕ) (Taken : List Seen → Type 0) → left ≡ now.left → cycle ≡ whole.cycle → places ≡ again
    → IsCompared left (k.reports cycle) (k.reports now.cycle) (λ seen. (after ≡ places) × Taken (within places seen)) → Took (IsSeenSinceWhole k now again (Some whole)) Taken
since_whole_within k now whole again places after left cycle Taken l e p d =
    since_whole_of k now whole again Taken
    (weaker_compared now.left (k.reports whole.cycle) (k.reports now.cycle) (λ seen. (after ≡ again) × Taken (within again seen)) (λ seen. Taken (within again seen)) (λ seen h. h.1)
    (subst (λ x. IsCompared now.left (k.reports whole.cycle) (k.reports now.cycle) (λ seen. (after ≡ x) × Taken (within x seen))) p
    (subst (λ n. IsCompared now.left (k.reports n) (k.reports now.cycle) (λ seen. (after ≡ places) × Taken (within places seen))) e
    (subst (λ x. IsCompared x (k.reports cycle) (k.reports now.cycle) (λ seen. (after ≡ places) × Taken (within places seen))) l d))))

-- where it is compared with none
pub lines_of : (k : Kept) (now : Cycle) (places after left : List Place) (Taken : List Seen → Type 0) → left ≡ now.left → places ≡ []
    → IsCompared left [] (k.reports now.cycle) (λ seen. (after ≡ places) × Taken (within places seen)) → Took (IsSeenSince k now None) Taken
lines_of k now places after left Taken l e d = by (subst (λ x. IsCompared x [] (k.reports now.cycle) (λ seen. (after ≡ []) × Taken (within [] seen))) l (subst (λ x. IsCompared left [] (k.reports now.cycle) (λ seen. (after ≡ x) × Taken (within x seen))) e d))
  where
    by : IsCompared now.left [] (k.reports now.cycle) (λ seen. (after ≡ []) × Taken (within [] seen)) → Took (IsSeenSince k now None) Taken
    by c = (_, (record { before = c.before; now = c.now; is_before = c.is_before; is_now = c.is_now; taken = refl }, c.taken.1))

pub missing_of : (k : Kept) (now : Cycle) (listed : List Place) (Taken : List Seen → Type 0)
    → IsSearched now.left listed (k.reports now.cycle) Taken → Took (IsSeenMissing k now (Some listed)) Taken
missing_of k now listed Taken s = (changes_seen (map missing (missing_objects now.left listed s.lines)), (record { lines = s.lines; report = s.report; taken = refl }, s.taken))

pub none_listed : (k : Kept) (now : Cycle) (found : Option (Vec Place Global)) (listed : Option (List Place)) (Taken : List Seen → Type 0) → None ≡ found
    → option_map (λ (places : Vec Place Global). places.items) found ≡ listed → Taken [] → Took (IsSeenMissing k now listed) Taken
none_listed k now found listed Taken none e taken = ([], (subst (λ l. IsSeenMissing k now l []) (ap (option_map (λ (places : Vec Place Global). places.items)) none ∙ e) refl, taken))

pub some_listed : (k : Kept) (now : Cycle) (places : List Place) (listed : Option (List Place)) (Taken : List Seen → Type 0) → Some places ≡ listed
    → Took (IsSeenMissing k now (Some places)) Taken → Took (IsSeenMissing k now listed) Taken
some_listed k now places listed Taken e took = subst (λ l. Took (IsSeenMissing k now l) Taken) e took

-- what is known of the bytes of two reports, or of one
pub both_known : {T E : Type 0} (r : Result T E) (b n : Option Text) (before now : Text) (Says : Text → Text → Type 0) → b ≡ Some before → n ≡ Some now
    → OnOk r (IfSome b (λ x. IfSome n (λ y. Says x y))) → OnOk r (Says before now)
both_known r b n before now Says e f says = subst (λ m. OnOk r (IfSome m (λ y. Says before y))) f (subst (λ m. OnOk r (IfSome m (λ x. IfSome n (λ y. Says x y)))) e says)

pub one_known : {T E : Type 0} (r : Result T E) (b : Option Text) (bytes : Text) (Says : Text → Type 0) → b ≡ Some bytes → OnOk r (IfSome b Says) → OnOk r (Says bytes)
one_known r b bytes Says e says = subst (λ m. OnOk r (IfSome m Says)) e says

-- ---- what was noted of what was seen

-- the lines of this report, as they were seen
abbrev since_lines : (k : Kept) (now : Cycle) (before : Option Cycle) (seen : List Seen) → IsSeenSince k now before seen → List Line
since_lines k now None seen d = d.now
since_lines k now (Some b) seen d = d.now

abbrev whole_lines : (k : Kept) (now : Cycle) (again : List Place) (whole : Option Cycle) (seen : List Seen) → IsSeenSinceWhole k now again whole seen → List Line
whole_lines k now again None seen e = []
whole_lines k now again (Some w) seen d = d.now

none_within : (ns : List Noted) → filter (λ n. is_left [] n.at.place) ns ≡ []
none_within [] = refl
none_within (n ∷ ns) = none_within ns

since_noted : (known : List KnownEntry) (k : Kept) (now : Cycle) (before : Option Cycle) (seen : List Seen) (d : IsSeenSince k now before seen)
    → AreSince known k now before (noted_from known none_kept seen) (since_lines k now before seen d)
since_noted known k now None seen d = (ap (noted_from known none_kept) d.taken ∙ noted_within known none_kept [] (all_compared now.left d.before d.now) ∙ none_within (noted_from known none_kept (all_compared now.left d.before d.now)), d.is_now)
since_noted known k now (Some b) seen d = record {
  before = d.before;
  now = d.now;
  is_before = d.is_before;
  is_now = d.is_now;
  are = (ap (noted_from known none_kept) d.taken ∙ noted_whole known (now.left ++ b.left) d.before d.now, refl);
}

whole_noted : (known : List KnownEntry) (k : Kept) (now : Cycle) (again : List Place) (whole : Option Cycle) (seen : List Seen) (d : IsSeenSinceWhole k now again whole seen)
    → AreSinceWhole known k now again whole (noted_from known none_kept seen) (whole_lines k now again whole seen d)
whole_noted known k now again None seen e = (ap (noted_from known none_kept) e, refl)
whole_noted known k now again (Some w) seen d = record {
  before = d.before;
  now = d.now;
  is_before = d.is_before;
  is_now = d.is_now;
  are = (
    ap (noted_from known none_kept) d.taken ∙ noted_within known none_kept again (all_compared now.left d.before d.now)
        ∙ ap (filter (λ n. is_left again n.at.place)) (noted_whole known now.left d.before d.now),
    refl,
  );
}

-- and what is found of it by them
since_news : (known : List KnownEntry) (said : List Line) (k : Kept) (now : Cycle) (before : Option Cycle) (seen : List Seen) (d : IsSeenSince k now before seen) (f : Findings)
    → HasFound f (held_after known said none_kept none_held seen) → AreNews said (noted_from known none_kept seen) (since_lines k now before seen d) f
since_news known said k now None seen d f found =
    subst (λ s. AreNews said (noted_from known none_kept s) d.now f) (sym d.taken)
    (news_within known said [] now.left d.before d.now f d.is_now.are (subst (λ s. HasFound f (held_after known said none_kept none_held s)) d.taken found))
since_news known said k now (Some b) seen d f found =
    subst (λ s. AreNews said (noted_from known none_kept s) d.now f) (sym d.taken)
    (news_compared known said (now.left ++ b.left) d.before d.now f d.is_now.are (subst (λ s. HasFound f (held_after known said none_kept none_held s)) d.taken found))

whole_news : (known : List KnownEntry) (said : List Line) (k : Kept) (now : Cycle) (again : List Place) (whole : Option Cycle) (seen : List Seen) (d : IsSeenSinceWhole k now again whole seen) (f : Findings)
    → HasFound f (held_after known said none_kept none_held seen) → AreNews said (noted_from known none_kept seen) (whole_lines k now again whole seen d) f
whole_news known said k now again None seen e f found =
    subst (λ s. AreNews said (noted_from known none_kept s) [] f) (sym e) (news_of_none said f (subst (λ s. HasFound f (held_after known said none_kept none_held s)) e found))
whole_news known said k now again (Some w) seen d f found =
    subst (λ s. AreNews said (noted_from known none_kept s) d.now f) (sym d.taken)
    (news_within known said again now.left d.before d.now f d.is_now.are (subst (λ s. HasFound f (held_after known said none_kept none_held s)) d.taken found))

missing_noted : (known : List KnownEntry) (k : Kept) (now : Cycle) (listed : Option (List Place)) (seen : List Seen) → IsSeenMissing k now listed seen
    → IsMissing k now listed (changes_of (noted_from known none_kept seen)) × (noted_from known none_kept seen ≡ map no_finding (changes_of (noted_from known none_kept seen)))
missing_noted known k now None seen e = (ap (λ s. changes_of (noted_from known none_kept s)) e, (λ i. noted_from known none_kept (e i)) ∙ sym (λ i. map no_finding (changes_of (noted_from known none_kept (e i)))))
missing_noted known k now (Some listed) seen s =
    let all = map missing (missing_objects now.left listed s.lines) in
    let is : noted_from known none_kept seen ≡ map no_finding all = ap (noted_from known none_kept) s.taken ∙ noted_missing known none_kept (missing_objects now.left listed s.lines) in (
      record { lines = s.lines; report = s.report; taken = changes_noted known none_kept seen ∙ ap changes_in s.taken },
      is ∙ ap (map no_finding) (sym (ap changes_of is ∙ changes_of_no_findings all)),
    )

-- ---- all that was taken

-- the same stand, with nothing kept and counted in the comparison under way, after the one with the
-- report before, or after that with the last whole one
abbrev pub next_since : Changes → ComparedLines → Part → Stand → Stand
next_since none lines part s = record { list = s.list; known = s.known; said = s.said; kept = none_kept; noting = none; lines = lines; since = part; whole = s.whole; is_grave = s.is_grave }

abbrev pub next_whole : Changes → ComparedLines → Part → Stand → Stand
next_whole none lines part s = record { list = s.list; known = s.known; said = s.said; kept = none_kept; noting = none; lines = lines; since = s.since; whole = part; is_grave = s.is_grave }

-- what came of a comparison
pub record IsPartOf (s : Stand) (part : Part) : Type 0 where
  pub changes : part.changes ≡ s.noting
  pub found : (h : Held) → AreHeld s.lines h → HasFound part.found h

-- of files that stay; between two comparisons what came of one is put aside
pub all_found : (f g h : Files) (pair : Pair) (a b b1 c c1 d : Stand) (n1 n2 : Changes) (l1 l2 : ComparedLines) (p1 p2 : Part) → g ≡ f → h ≡ g
    → b1 ≡ next_since n1 l1 p1 b → c1 ≡ next_whole n2 l2 p2 c → IsPartOf b p1 → IsPartOf c p2
    → a.kept ≡ none_kept → AreHeld a.lines none_held → AreHeld l1 none_held → AreCounted a.noting (counted []) → AreCounted n1 (counted []) → AreCounted n2 (counted [])
    → Took (IsSeenSince (kept_of f) pair.closed pair.before) (λ seen. HasTaken a seen b) → Took (IsSeenSinceWhole (kept_of g) pair.closed pair.again.items pair.whole) (λ seen. HasTaken b1 seen c)
    → Took (IsSeenMissing (kept_of h) pair.closed h.listed) (λ seen. HasTaken c1 seen d) → AllTaken (AreOf a.known (kept_of f) pair) a d
all_found f g h pair a b b1 c c1 d n1 n2 l1 l2 p1 p2 gf hg bb cc1 is1 is2 none ha h1 za z1 z2 since whole missing = by since
    (subst (λ x. Took (IsSeenSinceWhole (kept_of f) pair.closed pair.again.items pair.whole) (λ seen. HasTaken x seen c)) bb (subst (λ x. Took (IsSeenSinceWhole (kept_of x) pair.closed pair.again.items pair.whole) (λ seen. HasTaken b1 seen c)) gf whole))
    (subst (λ x. Took (IsSeenMissing (kept_of f) pair.closed f.listed) (λ seen. HasTaken x seen d)) cc1 (subst (λ x. Took (IsSeenMissing (kept_of x) pair.closed x.listed) (λ seen. HasTaken c1 seen d)) (hg ∙ gf) missing))
  where
    by : Took (IsSeenSince (kept_of f) pair.closed pair.before) (λ seen. HasTaken a seen b) → Took (IsSeenSinceWhole (kept_of f) pair.closed pair.again.items pair.whole) (λ seen. HasTaken (next_since n1 l1 p1 b) seen c)
        → Took (IsSeenMissing (kept_of f) pair.closed f.listed) (λ seen. HasTaken (next_whole n2 l2 p2 c) seen d) → AllTaken (AreOf a.known (kept_of f) pair) a d
    by x y z =
        let p = x.1.1 in
        let q = y.1.1 in
        let r = z.1.1 in
        let ps = noted_from a.known none_kept x.0 in
        let qs = noted_from a.known none_kept y.0 in
        let rs = noted_from a.known none_kept z.0 in
        let first : noted_from a.known a.kept x.0 ≡ ps = ap (λ k. noted_from a.known k x.0) none in
        let then : noted_from b.known none_kept y.0 ≡ qs = ap (λ known. noted_from known none_kept y.0) p.known in
        let last : noted_from c.known none_kept z.0 ≡ rs = ap (λ known. noted_from known none_kept z.0) (q.known ∙ p.known) in
        let held : held_after a.known a.said a.kept none_held x.0 ≡ held_after a.known a.said none_kept none_held x.0 = ap (λ k. held_after a.known a.said k none_held x.0) none in
        let again : held_after b.known b.said none_kept none_held y.0 ≡ held_after a.known a.said none_kept none_held y.0 =
        (λ i. held_after (p.known i) (p.said i) none_kept none_held y.0) in
        let lacking = missing_noted a.known (kept_of f) pair.closed f.listed z.0 z.1.0 in
        record {
          parts = record {
            since = ps;
            whole = qs;
            missing = rs;
            lines = since_lines (kept_of f) pair.closed pair.before x.0 x.1.0;
            again = whole_lines (kept_of f) pair.closed pair.again.items pair.whole y.0 y.1.0;
          };
          are = record {
            since = since_noted a.known (kept_of f) pair.closed pair.before x.0 x.1.0;
            whole = whole_noted a.known (kept_of f) pair.closed pair.again.items pair.whole y.0 y.1.0;
            missing = record { listed = lacking.0; are = lacking.1 };
          };
          list = subst (λ cs. Appends a.list d.list (gone_text cs)) (same ps qs rs (changes_in x.0) (changes_in y.0) (changes_in z.0) (changes_noted a.known none_kept x.0) (changes_noted a.known none_kept y.0) (changes_noted a.known none_kept z.0))
              (texts_joined a.list b.list d.list (changes_in x.0) (changes_in y.0 ++ changes_in z.0) p.list (texts_joined b.list c.list d.list (changes_in y.0) (changes_in z.0) q.list r.list));
          since = subst (λ s. AreCounted s.changes (counted ps)) (sym (r.since ∙ q.since)) (subst (λ s. AreCounted s (counted ps)) (sym is1.changes) (subst (λ ns. AreCounted b.noting (counted ns)) first (p.counted_on [] za)));
          found = subst (λ s. AreNews a.said ps (since_lines (kept_of f) pair.closed pair.before x.0 x.1.0) s.found) (sym (r.since ∙ q.since))
              (since_news a.known a.said (kept_of f) pair.closed pair.before x.0 x.1.0 p1.found (subst (HasFound p1.found) held (is1.found _ (p.held_on none_held ha))));
          whole = subst (λ s. AreCounted s.changes (counted qs)) (sym r.whole) (subst (λ s. AreCounted s (counted qs)) (sym is2.changes) (subst (λ ns. AreCounted c.noting (counted ns)) then (q.counted_on [] z1)));
          again = subst (λ s. AreNews a.said qs (whole_lines (kept_of f) pair.closed pair.again.items pair.whole y.0 y.1.0) s.found) (sym r.whole)
              (whole_news a.known a.said (kept_of f) pair.closed pair.again.items pair.whole y.0 y.1.0 p2.found (subst (HasFound p2.found) again (is2.found _ (q.held_on none_held h1))));
          missing = subst (λ ns. AreCounted d.noting (counted ns)) last (r.counted_on [] z2);
          grave = r.grave ∙ (λ i. c.is_grave || list_any is_news (last i)) ∙ ap (λ g. g || list_any is_news rs) (q.grave ∙ (λ i. b.is_grave || list_any is_news (then i)))
              ∙ ap (λ g. (g || list_any is_news qs) || list_any is_news rs) (p.grave ∙ (λ i. a.is_grave || list_any is_news (first i)))
              ∙ all_or a.is_grave ps qs rs;
        }
      where
        same : (ps qs rs : List Noted) (first then last : List ChangeAt) → changes_of ps ≡ first → changes_of qs ≡ then → changes_of rs ≡ last → first ++ (then ++ last) ≡ changes_of (ps ++ (qs ++ rs))
        same ps qs rs first then last e g h =
            sym (map-append (λ (n : Noted). n.at) ps (qs ++ rs) ∙ ap (λ cs. changes_of ps ++ cs) (map-append (λ (n : Noted). n.at) qs rs)
            ∙ ap (λ cs. cs ++ (changes_of qs ++ changes_of rs)) e ∙ ap (λ cs. first ++ (cs ++ changes_of rs)) g ∙ ap (λ cs. first ++ (then ++ cs)) h)

        or_or : (a b c : Bool) → ((a || b) || c) ≡ (a || (b || c))
        or_or true b c = refl
        or_or false b c = refl

        all_or : (g : Bool) (ps qs rs : List Noted) → (((g || list_any is_news ps) || list_any is_news qs) || list_any is_news rs) ≡ (g || list_any is_news (ps ++ (qs ++ rs)))
        all_or g ps qs rs = ap (λ x. x || list_any is_news rs) (or_or g (list_any is_news ps) (list_any is_news qs)) ∙ or_or g (list_any is_news ps || list_any is_news qs) (list_any is_news rs)
            ∙ ap (λ x. g || x) (or_or (list_any is_news ps) (list_any is_news qs) (list_any is_news rs) ∙ ap (λ x. list_any is_news ps || x) (sym (list_any-append is_news qs rs))
            ∙ sym (list_any-append is_news ps (qs ++ rs)))

pub none_of_lost : (k : Kept) (pair : Pair) (a : Stand) → pair.closed.lost ≡ true → AreCounted a.since.changes (counted []) → HasFound a.since.found none_held → AreCounted a.whole.changes (counted [])
    → HasFound a.whole.found none_held → AreCounted a.noting (counted []) → AllTaken (AreParts a.known k pair) a a
none_of_lost k pair a lost since found whole again noting = record {
  parts = no_parts;
  are = (λ is. refl, λ is. absurd (false≢true (sym is ∙ lost)));
  list = Appends-nil a.list;
  since = since;
  found = news_of_none a.said a.since.found found;
  whole = whole;
  again = news_of_none a.said a.whole.found again;
  missing = noting;
  grave = nothing_more a.is_grave;
}
  where
    nothing_more : (g : Bool) → g ≡ (g || false)
    nothing_more true = refl
    nothing_more false = refl

pub taken_of_kept : (known : List KnownEntry) (k : Kept) (pair : Pair) (a d : Stand) → pair.closed.lost ≡ false → AllTaken (AreOf known k pair) a d → AllTaken (AreParts known k pair) a d
taken_of_kept known k pair a d kept t = record {
  parts = t.parts;
  are = (λ is. absurd (false≢true (sym kept ∙ is)), λ is. t.are);
  list = t.list;
  since = t.since;
  found = t.found;
  whole = t.whole;
  again = t.again;
  missing = t.missing;
  grave = t.grave;
}

-- what is found hangs on no account
without_accounts : (known : List KnownEntry) (k : Kept) (pair : Pair) (p : Parts) → AreOf known k pair p → AreOf known (no_accounts k) pair p
without_accounts known k pair p h = record { since = since pair.before h.since; whole = whole pair.whole h.whole; missing = record { listed = listed k.listed h.missing.listed; are = h.missing.are } }
  where
    since : (before : Option Cycle) → AreSince known k pair.closed before p.since p.lines → AreSince known (no_accounts k) pair.closed before p.since p.lines
    since None is = is
    since (Some b) is = is

    whole : (w : Option Cycle) → AreSinceWhole known k pair.closed pair.again.items w p.whole p.again → AreSinceWhole known (no_accounts k) pair.closed pair.again.items w p.whole p.again
    whole None is = is
    whole (Some w) is = is

    listed : (places : Option (List Place)) → IsMissing k pair.closed places (changes_of p.missing) → IsMissing (no_accounts k) pair.closed places (changes_of p.missing)
    listed None is = is
    listed (Some places) is = is

since_changes : (known : List KnownEntry) (k : Kept) (now : Cycle) (before : Option Cycle) (ns : List Noted) (ls : List Line) → AreSince known k now before ns ls → IsSince k now before (changes_of ns)
since_changes known k now None ns ls e = ap changes_of e.0
since_changes known k now (Some b) ns ls d = record {
  before = d.before;
  now = d.now;
  is_before = d.is_before;
  is_now = d.is_now;
  taken = ap changes_of d.are.0 ∙ changes_of_noted known d.before d.now (comparison (now.left ++ b.left) d.before d.now) ∙ changes_seen_all known (now.left ++ b.left) d.before d.now;
}

whole_changes : (known : List KnownEntry) (k : Kept) (now : Cycle) (again : List Place) (whole : Option Cycle) (ns : List Noted) (ls : List Line)
    → AreSinceWhole known k now again whole ns ls → IsSinceWhole k now again whole (changes_of ns)
whole_changes known k now again None ns ls e = ap changes_of e.0
whole_changes known k now again (Some w) ns ls d =
    let all = comparison now.left d.before d.now in
    record {
      before = d.before;
      now = d.now;
      is_before = d.is_before;
      is_now = d.is_now;
      taken = ap changes_of d.are.0 ∙ changes_of_within again (map (noted_in known d.before d.now) all)
          ∙ ap (filter (λ c. is_left again c.place)) (changes_of_noted known d.before d.now all ∙ changes_seen_all known now.left d.before d.now);
    }

found_in : (known : List KnownEntry) (k : Kept) (pair : Pair) (p : Parts) → AreOf known k pair p → AreFound k pair (changes_of (all_of p))
found_in known k pair p h = record {
  since = changes_of p.since;
  since_whole = changes_of p.whole;
  missing = changes_of p.missing;
  is = map-append (λ (n : Noted). n.at) p.since (p.whole ++ p.missing) ∙ ap (λ cs. changes_of p.since ++ cs) (map-append (λ (n : Noted). n.at) p.whole p.missing);
  compared = since_changes known k pair.closed pair.before p.since p.lines h.since;
  again = whole_changes known k pair.closed pair.again.items pair.whole p.whole p.again h.whole;
  listed = h.missing.listed;
}

-- which findings are new, of all changes that were taken
news_taken : {Are : Parts → Type 0} (old new : Stand) (t : AllTaken Are old new) → AreNewsOf new.since.found new.whole.found (news_in old.said t.parts)
news_taken old new t = record {
  before = old.said;
  new_since = t.parts.since;
  lines = t.parts.lines;
  new_again = t.parts.whole;
  again = t.parts.again;
  is = refl;
  of_since = t.found;
  of_whole = t.again;
}

-- what is kept of all changes that were taken
pub account_in : (b : Beside) (f : Files) (pair : Pair) (a : Account) (old new : Stand) → old.known ≡ b.known → old.said ≡ b.said → AllTaken (AreParts old.known (kept_of f) pair) old new
    → ((p : Parts) (n : News) → AreCounted new.since.changes (counted p.since) → AreCounted new.whole.changes (counted p.whole) → AreCounted new.noting (counted p.missing)
    → AreNewsOf new.since.found new.whole.found n → IsAccount b f pair (counted_in p) n a) → IsAccountOf b f pair a
account_in b f pair a old new names again t is = record {
  parts = t.parts;
  are = subst (λ known. AreParts known (kept_of f) pair t.parts) names t.are;
  account = subst (λ before. IsAccount b f pair (counted_in t.parts) (news_in before t.parts) a) again (is t.parts (news_in old.said t.parts) t.since t.whole t.missing (news_taken old new t));
}

-- what is found, of an empty list and no change on
pub finds_of : (k : Kept) (pair : Pair) (b : Beside) (text : Text) (is_grave : Bool) (beside : Text) (old new : Stand)
    → old.list ≡ Some [] → old.is_grave ≡ false → old.known ≡ b.known → old.said ≡ b.said → AllTaken (AreParts old.known k pair) old new
    → ((bytes : Text) → new.list ≡ Some bytes → beside ≡ bytes) → ((p : Parts) (n : News) → AreCounted new.since.changes (counted p.since) → AreCounted new.whole.changes (counted p.whole) → AreCounted new.noting (counted p.missing)
    → AreNewsOf new.since.found new.whole.found n → HasText b pair (counted_in p) n text)
    → is_grave ≡ new.is_grave → Finds k pair (said_beside b) text is_grave beside
finds_of k pair b text is_grave beside old new empty calm names again t written said grave = record {
  changes = changes_of (all_of t.parts);
  are = (λ lost. ap (λ p. changes_of (all_of p)) (t.are.0 lost), λ kept. found_in old.known k pair t.parts (t.are.1 kept));
  said = record {
    parts = t.parts;
    are = (t.are.0, λ kept. without_accounts b.known k pair t.parts (subst (λ known. AreOf known k pair t.parts) names (t.are.1 kept)));
    is = refl;
    said = subst (λ before. HasText b pair (counted_in t.parts) (news_in before t.parts) text) again (said t.parts (news_in old.said t.parts) t.since t.whole t.missing (news_taken old new t));
    grave = grave ∙ t.grave ∙ ap (λ g. g || list_any is_news (all_of t.parts)) calm;
  };
  listed = written (gone_text (changes_of (all_of t.parts))) (in_list new.list (subst (λ l. Appends l new.list (gone_text (changes_of (all_of t.parts)))) empty t.list));
}
  where
    in_list : (list : Option Text) → Appends (Some []) list (gone_text (changes_of (all_of t.parts))) → list ≡ Some (gone_text (changes_of (all_of t.parts)))
    in_list None p = absurd p
    in_list (Some bytes) p = ap Some p
