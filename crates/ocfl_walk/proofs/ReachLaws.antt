-- The directories on a way that are entered.
use Rattle.std.proofs.Common.{◌≡◌, ◌⊎◌, inl, inr, List, [], ◌∷◌, ◌++◌, refl, sym, ◌∙◌, ap, subst, true, false, Bool, length, arith}
use Rattle.std.proofs.lemmas.Bool.{and_left}
use Rattle.std.specs.{Prelude.{◌&&◌, nat_le}, List.{list_all}}
use Rattle.ocfl_tree.specs.{Place.{Text, Place}, Ascending.{IsAmong}}
use Rattle.ocfl_tree.specs.{StorageRoot.{StorageRoot, is_dir}, Store.{Store, Did}}
use Rattle.ocfl_tree.proofs.Orders.{among_left, among_right, true_not_false}
use Rattle.ocfl_tree.proofs.{Stores.{among_either}, Bools.{and_first, and_second, and_both}}
use Rattle.ocfl_report.specs.declared.further.Further.{Further}
use Rattle.ocfl_rules.specs.Walk.{is_reached}
use Rattle.ocfl_rules.specs.Zone.{Zone, skipped, hierarchy, inside, zone, beginnings, is_entered, is_listed_zone, max_listed_depth}
use Rattle.ocfl_rules.specs.{Between.{is_looked_into, shows_entries}, Head.{on}}
use Rattle.ocfl_rules.proofs.StepLaws.{reached_step}
use Rattle.ocfl_item.specs.Ways.{way_below}
use Rattle.ocfl_walk.specs.{WalkCalls.{AreAllListed}, Internal.Entering.{Comes, Descends}}
use Rattle.ocfl_walk.proofs.DescentLaws.{descends_not, descends_on}

module _ (root : StorageRoot) where
  -- below a directory that is not entered none is
  out_below : (d : Place) (n : Text) → is_reached root d ≡ false → is_reached root (d ++ n ∷ []) ≡ false
  out_below d n h = reached_step root d n ∙ and_left (is_reached root d) (is_entered root (d ++ n ∷ [])) h

  pub none_reached : (d q : Place) → is_reached root d ≡ false → (e : Place) → IsAmong (way_below d q) e → is_reached root e ≡ true → ⊥
  none_reached d [] h e i k = i
  none_reached d (n ∷ q) h e (inl f) k = true_not_false (sym k ∙ ap (is_reached root) f ∙ out_below d n h)
  none_reached d (n ∷ q) h e (inr i) k = none_reached (d ++ n ∷ []) q (out_below d n h) e i k

  module _ (d : Place) (n : Text) (r : Place) (out : is_reached root (d ++ n ∷ []) ≡ false) where
    -- it was not listed
    pub all_shut : (listed : List Place) → AreAllListed root (way_below d (n ∷ r)) listed
    all_shut listed e (inl f) k = absurd (true_not_false (sym k ∙ ap (is_reached root) f ∙ out))
    all_shut listed e (inr i) k = absurd (none_reached (d ++ n ∷ []) r out e i k)

    pub comes_shut : (further : Further) (s t : Store) (may : List Place) → Descends further root s t (way_below d (n ∷ r)) [] may [] 0 → Comes further root s t (way_below d (n ∷ r)) [] may []
    comes_shut further s t may goes = record { goes = goes; all = all_shut (goes.calls.listings ++ []) }

  -- what is entered lies where directories are listed
  pub reached_listed : (d : Place) → is_reached root d ≡ true → is_listed_zone root (zone root d) ≡ true
  reached_listed d h =
      and_second (is_dir root d) (is_listed_zone root (zone root d))
      (and_second (nat_le (length d) max_listed_depth) (is_dir root d && is_listed_zone root (zone root d)) (and_second (list_all (is_entered root) (beginnings d)) (is_entered root d) h))

  -- what is entered is looked into
  shows : (z : Zone) → is_listed_zone root z ≡ true → shows_entries root z ≡ true
  shows skipped h = h
  shows hierarchy h = refl
  shows (inside o []) h = refl
  shows (inside o (n ∷ q)) h = h

  pub reached_looked : (e : Place) → is_reached root e ≡ true → is_looked_into root e ≡ true
  reached_looked [] h = refl
  reached_looked (n ∷ d) h =
      let way : Bool = list_all (is_entered root) (beginnings (n ∷ d)) in
      let short : Bool = nat_le (length (n ∷ d)) max_listed_depth in
      let there : Bool = is_dir root (n ∷ d) in
      let zone_is : Bool = is_listed_zone root (zone root (n ∷ d)) in
      let entered : short && (there && zone_is) ≡ true = and_second way (is_entered root (n ∷ d)) h in
      let rest : there && zone_is ≡ true = and_second short (there && zone_is) entered in
      and_both way _ (and_first way (is_entered root (n ∷ d)) h)
      (and_both short _ (and_first short (there && zone_is) entered) (and_both there _ (and_first there zone_is rest) (shows (zone root (n ∷ d)) (and_second there zone_is rest))))

  -- a place that is met is listed if it is looked into
  pub own_listed : (e : Place) (listings : List Place) → listings ≡ on (is_looked_into root e) e → AreAllListed root (e ∷ []) listings
  own_listed e listings is x (inl f) k =
      let looked : is_looked_into root e ≡ true = reached_looked e (ap (is_reached root) (sym f) ∙ k) in
      subst (λ ls. IsAmong ls x) (sym is) (subst (λ b. IsAmong (on b e) x) (sym looked) (inl f))
  own_listed e listings is x (inr i) k = absurd i

  -- one after the other
  pub all_then : (way more more' a b : List Place) → AreAllListed root way (a ++ more) → AreAllListed root more (b ++ more') → AreAllListed root way ((a ++ b) ++ more')
  all_then way more more' a b h g e i k = by (among_either a more e (h e i k))
    where
      by : IsAmong a e ⊎ IsAmong more e → IsAmong ((a ++ b) ++ more') e
      by (inl j) = among_left (a ++ b) more' e (among_left a b e j)
      by (inr j) = on (among_either b more' e (g e j k))
        where
          on : IsAmong b e ⊎ IsAmong more' e → IsAmong ((a ++ b) ++ more') e
          on (inl l) = among_left (a ++ b) more' e (among_right a b e l)
          on (inr l) = among_right (a ++ b) more' e l

  abbrev pub comes_on : (further : Further) (s t u : Store) (way more may left : List Place) (more' left' : List Place) → Comes further root s t way more may left
      → Comes further root t u more more' left left' → Comes further root s u way more' may left'
  comes_on further s t u way more may left more' left' h g = record {
    goes = descends_on further root s t u way more more' may left left' 0 h.goes g.goes;
    all = all_then way more more' h.goes.calls.listings g.goes.calls.listings h.all g.all;
  }

  -- at the end of the way
  pub comes_end : (further : Further) (s : Store) (d q : Place) (may : List Place) → length q ≡ 0 → s.tree ≡ root → Did s s [] [] 0 → Comes further root s s (way_below d q) [] may []
  comes_end further s d [] may none over did = record { goes = descends_not further root s s [] may over did; all = λ e i k. absurd i }
  comes_end further s d (n ∷ q) may none over did = absurd (omega (arith, none))
