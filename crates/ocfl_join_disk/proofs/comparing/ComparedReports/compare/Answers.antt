use Rattle.std.proofs.Common.{◌≡◌, Some, None, subst}
use Rattle.ocfl_join_disk.specs.Shown.{text_in}
use Rattle.ocfl_join_disk.specs.Comparing.{end_of}
use Rattle.ocfl_join_disk.proofs.Compared.{compared_more, end_after, some_after}
use Rattle.ocfl_join_disk.proofs.comparing.ComparedReports.compare.Goals as goal

pub invariant_of-self-in-Ok-true : goal.invariant_of-self-in-Ok-true
invariant_of-self-in-Ok-true g c =
    let is : c.args.self.now.made ≡ Some c.in-Some.made = cc in
    let took = c.in-Ok-true.ensures c.in-Ok-true.field-0-test in
    record {
      known = λ told one same.
          let e : c.is_next.new.report ≡ one = cc in
          subst (λ (r : g.row.D-Report.Denot). g.D.Report.Read.remaining r ≡ None → ⊥) e (some_after _ _ _ (c.args.self.now.known told c.in-Some.made is) took);
      rest = λ told one same.
          let e : c.is_next.new.report ≡ one = cc in
          subst (λ (r : g.row.D-Report.Denot). g.D.Report.Read.remaining r ≡ end_of (g.D.Report.Read.remaining r) (text_in c.args.self.now.cycle c.args.self.now.whole (g.D.JoinDisk.state c.args.self.now.parts.disk).seen)) e
          (end_after _ _ _ _ (c.args.self.now.known told c.in-Some.made is) (c.args.self.now.rest told c.in-Some.made is) took);
    }

pub returns-in-Ok-true-clause-compared : goal.returns-in-Ok-true-clause-compared
returns-in-Ok-true-clause-compared g c = λ told.
    let is : c.args.self.now.made ≡ Some c.in-Some.made = cc in
    compared_more g.D.Report.Read.remaining _ _ _ _ _ is (c.args.self.now.known told c.in-Some.made is) (c.args.self.now.rest told c.in-Some.made is) (c.in-Ok-true.ensures c.in-Ok-true.field-0-test)
