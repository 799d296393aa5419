-- An audit and a run list no directory twice, and read no inventory twice.
use Rattle.std.proofs.Common.{◌≡◌, ℕ, List, [], ◌++◌, sym, subst, append-nil, Bool, Option, Some, None}
use Rattle.ocfl_tree.specs.{Place.{Place, place_cmp}, Ascending.{IsAscending}}
use Rattle.ocfl_tree.specs.declared.store.Opening.{Opening}
use Rattle.ocfl_rules.specs.{Parts.{Part}, Runs.{Limits}, Trail.{heads_of}}
use Rattle.ocfl_item.specs.{Looking.{IsFront}}
use Rattle.ocfl_scrub.specs.declared.stop.ReportStop.{ReportStop}
use Rattle.ocfl_scrub.specs.{Call.{Call}, Running.{RunEndsWithin}}
use Rattle.ocfl_scrub.specs.Starting.{looked_in, read_in, LooksOver, StopsLooking}
use Rattle.ocfl_scrub.specs.WholeAudit.{AuditEndsWithin}
use Rattle.ocfl_scrub.specs.declared.checking.AuditStatus.{AuditStatus}
use Rattle.ocfl_scrub.specs.declared.running.RunStatus.{RunStatus}
use Rattle.ocfl_scrub.specs.declared.checking.AuditStatus.TheVariants as end
use Rattle.ocfl_scrub.specs.declared.running.RunStatus.TheVariants as run
use Rattle.ocfl_scrub.proofs.WayOrder.{listed_once_in, read_once_in}

all_front : (xs : List Place) → IsFront xs xs
all_front xs = ([], sym (append-nil xs))

module _ (call : Call) (part : Part) (from : Option Place) where
  module _ (to : Option Place) (audited : List Place) (trail : List Opening) (h : LooksOver call part from to audited trail) where
    pub lists_once : IsAscending place_cmp (h.down ++ looked_in call.root part from to)
    lists_once = listed_once_in call.root part from to h.down (looked_in call.root part from to) h.down_front (all_front _)

    pub reads_once : IsAscending place_cmp (h.held ++ read_in call.root part from to)
    reads_once = read_once_in call.root part from to h.held (read_in call.root part from to) h.held_front (all_front _)

    looks_list : (listed : List Place) × ((call.after.listings ≡ call.before.listings ++ listed) × IsAscending place_cmp listed)
    looks_list = (_, (h.audits.did.listings_are, lists_once))

    looks_read : (os : List Opening) × ((call.after.openings ≡ call.before.openings ++ os) × IsAscending place_cmp (heads_of call.root os))
    looks_read = (trail, (h.audits.did.openings_are, subst (IsAscending place_cmp) (sym h.audits.heads_are) reads_once))

  module _ (begun : List Place) (trail : List Opening) (why : ReportStop) (h : StopsLooking call part from begun trail why) where
    pub stops_list_once : IsAscending place_cmp (h.down ++ h.listed)
    stops_list_once = listed_once_in call.root part from None h.down h.listed h.down_front h.listed_front

    pub stops_read_once : IsAscending place_cmp (h.held ++ h.heads)
    stops_read_once = read_once_in call.root part from None h.held h.heads h.held_front h.heads_front

    stops_list : (listed : List Place) × ((call.after.listings ≡ call.before.listings ++ listed) × IsAscending place_cmp listed)
    stops_list = (_, (h.fails.did.listings_are, stops_list_once))

    stops_read : (os : List Opening) × ((call.after.openings ≡ call.before.openings ++ os) × IsAscending place_cmp (heads_of call.root os))
    stops_read = (trail, (h.fails.did.openings_are, subst (IsAscending place_cmp) (sym h.fails.heads_are) stops_read_once))

-- ---- the audit of a part

module _ (call : Call) (part : Part) (last : Option Place) (finding : Bool) where
  pub part_lists_once : (how : AuditStatus) → AuditEndsWithin call part last finding how → (listed : List Place) × ((call.after.listings ≡ call.before.listings ++ listed) × IsAscending place_cmp listed)
  part_lists_once end.Ended h = looks_list call part None None _ h.trail h.looks
  part_lists_once (end.Stopped why) h = stops_list call part None _ h.trail why h.looks

  pub part_reads_once : (how : AuditStatus) → AuditEndsWithin call part last finding how → (trail : List Opening)
      × ((call.after.openings ≡ call.before.openings ++ trail) × IsAscending place_cmp (heads_of call.root trail))
  part_reads_once end.Ended h = looks_read call part None None _ h.trail h.looks
  part_reads_once (end.Stopped why) h = stops_read call part None _ h.trail why h.looks

-- ---- a run of a part

module _ (call : Call) (part : Part) (from last : Option Place) (limits : Limits) (spent files : ℕ) (finding : Bool) where
  pub run_lists_once : (how : RunStatus) → RunEndsWithin call part from last limits spent files finding how
      → (listed : List Place) × ((call.after.listings ≡ call.before.listings ++ listed) × IsAscending place_cmp listed)
  run_lists_once run.Ended h = looks_list call part from None _ h.trail h.looks
  run_lists_once run.Spent h = looks_list call part from (Some h.0) _ h.1.trail h.1.looks
  run_lists_once (run.Stopped why) h = stops_list call part from _ h.trail why h.looks
  run_lists_once run.Worn h = absurd h

  pub run_reads_once : (how : RunStatus) → RunEndsWithin call part from last limits spent files finding how → (trail : List Opening)
      × ((call.after.openings ≡ call.before.openings ++ trail) × IsAscending place_cmp (heads_of call.root trail))
  run_reads_once run.Ended h = looks_read call part from None _ h.trail h.looks
  run_reads_once run.Spent h = looks_read call part from (Some h.0) _ h.1.trail h.1.looks
  run_reads_once (run.Stopped why) h = stops_read call part from _ h.trail why h.looks
  run_reads_once run.Worn h = absurd h
