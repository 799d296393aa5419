-- How far two reports are compared.
use Rattle.std.specs.Prelude.{◌≡◌, ◌≢◌, ◌⊎◌, ℕ, ◌&&◌, List, [], ◌∷◌, ◌++◌, All, Bool, false, map, flat_map, Option, Some, None, IfSome, if◌then◌else◌, ⊤}
use Rattle.std.specs.List.{list_any}
use Rattle.std.specs.declared.cmp.Ordering.TheVariants.{Less}
use Rattle.ocfl_tree.specs.{Place.{Text, Place, place_cmp, begins}, Ascending.{IsAscending, IsAmong}}
use Rattle.ocfl_report.specs.{Line.{Line}, declared.line.Line.{Line as MadeLine}}
use Rattle.ocfl_compare.specs.Changes.{is_left, is_below, is_shut, answer_at}
use Rattle.ocfl_compare.specs.Seen.{Seen, lines_seen, shown}
use Rattle.ocfl_compare.specs.declared.side.Side.TheVariants.{Before, Now}
use Rattle.ocfl_compare.specs.Internal.Reading.{HasRead, IsAt, IsBelow, last_place}
use Rattle.ocfl_compare.specs.declared.change.Change.{Change}
use Rattle.ocfl_compare.specs.declared.question.Question.{Question}
use Rattle.ocfl_compare.specs.declared.reading.ReadStop.{ReadStop}
use Rattle.ocfl_compare.specs.declared.reading.ReadStop.TheVariants.{Line as BadLine, Failed, Output, Memory}
use Rattle.ocfl_compare.specs.declared.stop.CompareStop.{CompareStop}
use Rattle.ocfl_compare.specs.declared.stop.CompareStop.TheVariants as stop

-- what is said of the bytes of two reports, if those of both are known
abbrev pub IfBothSome : Option Text → Option Text → (Text → Text → Type 0) → Type 0
IfBothSome b n Says = IfSome b (λ before. IfSome n (λ now. Says before now))

-- these lines of the place were taken, the first of them that which was next; or there are none
pub record AreTaken (p : Place) (all left : Option Text) (done own : List Line) (first next : Option MadeLine) (count : ℕ) : Type 0 where
  pub here : All (λ l. p ≡ l.place) own
  pub some : ((own ≢ []) × IsAt p first) ⊎ ((own ≡ []) × (next ≡ first))
  pub reading : HasRead all left (done ++ own) next count

-- the lines of one place in both reports; whether the place is below an object that is shut, and
-- whether this report has lines below the place
pub record Group : Type 0 where
  pub place : Place
  pub in_shut : Bool
  pub has_lines : Bool
  pub before : List Line
  pub now : List Line

pub record IsGroup (g : Group) : Type 0 where
  pub before : All (λ l. g.place ≡ l.place) g.before
  pub now : All (λ l. g.place ≡ l.place) g.now
  pub some : (g.before ≢ []) ⊎ (g.now ≢ [])

abbrev pub said_changes : Question → List Place → Place → Bool → Bool → List Line → List Line → List Change
said_changes asked left p shut has_lines before now = if is_left left p then [] else answer_at asked shut has_lines before now

abbrev pub group_seen : Question → List Place → Group → List Seen
group_seen asked left g =
    lines_seen asked Before g.before ++ (lines_seen asked Now g.now ++ shown g.place (said_changes asked left g.place g.in_shut g.has_lines g.before g.now))

-- one report is read up to a line behind all groups, and these are their lines in it
pub record IsHalf (lines : Group → List Line) (groups : List Group) (all left : Option Text) (next : Option MadeLine) (count : ℕ) : Type 0 where
  pub reading : HasRead all left (flat_map lines groups) next count
  pub below : All (λ g. IsBelow g.place next) groups

-- ---- what is around a place

-- the place of the first of some lines, or of what follows them
abbrev pub place_or : List Line → Option Place → Option Place
place_or [] next = next
place_or (l ∷ ls) next = Some l.place

-- the place of the first line of some groups, or of the line behind them
abbrev pub first_place : List Group → Option Place → Option Place
first_place [] next = next
first_place (g ∷ gs) next = place_or g.now (first_place gs next)

-- whether a place begins the next one
abbrev pub leads_to : Place → Option Place → Bool
leads_to p None = false
leads_to p (Some q) = begins p q

-- of each group it is known whether the next line behind it is below it
abbrev pub AreFollowed : List Group → Option Place → Type 0
AreFollowed [] next = ⊤
AreFollowed (g ∷ gs) next = (g.has_lines ≡ leads_to g.place (first_place gs next)) × AreFollowed gs next

abbrev pub shuts : Group → Bool
shuts g = is_shut g.before g.now

-- the place is below one of the groups, which is shut
abbrev pub below_shut : List Group → Place → Bool
below_shut gs p = list_any (λ g. is_below g.place p && shuts g) gs

-- the place is below the object that was shut last, or at it
abbrev pub leads_from : Option Place → Place → Bool
leads_from None p = false
leads_from (Some q) p = begins q p

-- the outermost object that is shut and may have more places below it
pub record IsShutBy (gs : List Group) (shut : Option Place) : Type 0 where
  pub ahead : (p : Place) → All (λ g. place_cmp g.place p ≡ Less) gs → below_shut gs p ≡ leads_from shut p
  pub among : IfSome shut (λ q. IsAmong (map (λ g. g.place) gs) q)
  pub behind : All (λ g. g.in_shut ≡ below_shut gs g.place) gs

-- the same once there is a group at this place, which is shut or not
abbrev pub shut_after : Option Place → Place → Bool → Option Place
shut_after shut p is = if leads_from shut p then shut else (if is then Some p else None)

-- groups in order, of which all was taken
pub record AreDone (asked : Question) (left : List Place) (groups : List Group) (next : Option Place) (shut : Option Place) (Taken : List Seen → Type 0) : Type 0 where
  pub are : All IsGroup groups
  pub ascend : IsAscending place_cmp (map (λ g. g.place) groups)
  pub followed : AreFollowed groups next
  pub shuts : IsShutBy groups shut
  pub taken : Taken (flat_map (group_seen asked left) groups)

pub record IsSoFar (asked : Question) (left : List Place) (b c : Option Text) (b_next : Option MadeLine) (b_count : ℕ) (n m : Option Text) (n_next : Option MadeLine) (n_count : ℕ) (shut : Option Place) (Taken : List Seen → Type 0) : Type 0 where
  pub groups : List Group
  pub before : IsHalf (λ g. g.before) groups b c b_next b_count
  pub now : IsHalf (λ g. g.now) groups n m n_next n_count
  pub done : AreDone asked left groups (last_place n_next) shut Taken

-- ---- stops

abbrev pub before_stop : ReadStop → CompareStop
before_stop (BadLine n) = stop.Before n
before_stop Failed = stop.BeforeFailed
before_stop Output = stop.Output
before_stop Memory = stop.Memory

abbrev pub now_stop : ReadStop → CompareStop
now_stop (BadLine n) = stop.Now n
now_stop Failed = stop.NowFailed
now_stop Output = stop.Output
now_stop Memory = stop.Memory
