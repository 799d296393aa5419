-- What is said on an output grows.
use Rattle.std.proofs.Common.{ℕ, [], ◌++◌, Option, Some, None, arith}
use Rattle.std.proofs.KnownBytes.{Appends-nil, Appends-trans}
use Rattle.ocfl_tree.specs.Place.{Text}
use Rattle.ocfl_say.specs.Said.{Said, Grew, Grows, NotLessOften}

grew_none : (s : Option Text) → Grew s s
grew_none s = ([], Appends-nil s)

grew_on : (a b c : Option Text) → Grew a b → Grew b c → Grew a c
grew_on a b c p q = (p.0 ++ q.0, Appends-trans a b c p.0 q.0 p.1 q.1)

same_often : (n : Option ℕ) → NotLessOften n n
same_often (Some n) = omega arith
same_often None = tt

often_on : (a b c : Option ℕ) → NotLessOften a b → NotLessOften b c → NotLessOften a c
often_on None b c p q = tt
often_on (Some l) None c p q = absurd p
often_on (Some l) (Some m) None p q = absurd q
often_on (Some l) (Some m) (Some n) p q = omega (arith, p, q)

pub grows_none : (s : Said) → Grows s s
grows_none s = record { given = grew_none s.given; committed = grew_none s.committed; failures = same_often s.failures }

pub grows_on : (s t u : Said) → Grows s t → Grows t u → Grows s u
grows_on s t u p q = record {
  given = grew_on s.given t.given u.given p.given q.given;
  committed = grew_on s.committed t.committed u.committed p.committed q.committed;
  failures = often_on s.failures t.failures u.failures p.failures q.failures;
}
