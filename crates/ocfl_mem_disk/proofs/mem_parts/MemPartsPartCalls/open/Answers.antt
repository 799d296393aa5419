use Rattle.std.proofs.Common.{◌≡◌, ◌∙◌, ℕ, Bool, Some, ap, sym, refl, subst}
use Rattle.std.specs.Prelude.{IsSome, Vec, string_bytes}
use Rattle.std.specs.declared.alloc.Global.{Global}
use Rattle.ocfl_join_disk.specs.Shown.{text_in}
use Rattle.ocfl_mem_disk.specs.{Log.{disk_of}, Paths.{JoinedName}}
use Rattle.ocfl_mem_disk.proofs.Parted.{name_at, never_made, never_other, opened_as}
use Rattle.ocfl_mem_disk.proofs.mem_parts.MemPartsPartCalls.open.Goals as goal
use Rattle.ocfl_mem_disk.proofs.mem_parts.MemPartsPartCalls.open.Goals.{in-Some+in_ok-bytes-in-Some, in-None+in_ok-bytes-in-None}

pub returns-clause-joined : goal.returns-clause-joined
returns-clause-joined c = λ told cycle whole fits is. elim c.match-name_of.branch [
  | in-Some+in_ok-bytes-in-Some w ↦
      let name = name_at (string_bytes c.args.self.now.path) c.args.path.now (record { digits = w.in-Some.name.digits.now; whole = w.in-Some.name.whole }) cycle whole fits w.in-Some.ensures.found is in
      let read = w.in_ok-bytes-in-Some.ensures.value cycle fits (ap (λ (n : JoinedName). n.digits) name) in
      opened_as c.new.result.pos c.new.result.inner.items c.match-name_of.bytes.items _ c.new.ensures.position (ap (λ (v : Vec ℕ Global). v.items) c.new.ensures.inner)
      (rw (sym (ap (λ (n : JoinedName). n.whole) name)) (ap (λ (v : Vec ℕ Global). Some v.items) w.bytes-is ∙ read))
  | in-None+in_ok-bytes-in-None w ↦ never_other (string_bytes c.args.self.now.path) c.args.path.now cycle whole fits (w.in-None.ensures.none refl) is
]

pub returns-clause-there : goal.returns-clause-there
returns-clause-there c = λ told cycle whole fits is. elim c.match-name_of.branch [
  | in-Some+in_ok-bytes-in-Some w ↦
      let name = name_at (string_bytes c.args.self.now.path) c.args.path.now (record { digits = w.in-Some.name.digits.now; whole = w.in-Some.name.whole }) cycle whole fits w.in-Some.ensures.found is in
      let read = w.in_ok-bytes-in-Some.ensures.value cycle fits (ap (λ (n : JoinedName). n.digits) name) in
      rw (sym (ap (λ (n : JoinedName). n.whole) name)) (subst (λ o. IsSome o) read refl)
  | in-None+in_ok-bytes-in-None w ↦ never_other (string_bytes c.args.self.now.path) c.args.path.now cycle whole fits (w.in-None.ensures.none refl) is
]

pub returns-clause-made : goal.returns-clause-made
returns-clause-made c = λ told cycle is. elim c.match-name_of.branch [
  | in-Some+in_ok-bytes-in-Some w ↦ never_made (string_bytes c.args.self.now.path) c.args.path.now (record { digits = w.in-Some.name.digits.now; whole = w.in-Some.name.whole }) cycle w.in-Some.ensures.found is
  | in-None+in_ok-bytes-in-None w ↦
      opened_as c.new.result.pos c.new.result.inner.items c.match-name_of.bytes.items _ c.new.ensures.position (ap (λ (v : Vec ℕ Global). v.items) c.new.ensures.inner)
      (ap Some (ap (λ (v : Vec ℕ Global). v.items) w.bytes-is ∙ w.in_ok-bytes-in-None.ensures.value))
]
