-- Two kinds in one: costs combine part by part; the first part decides, and the second where the first parts are equal.
use Rattle.std.specs.Prelude.{◌≡◌, ◌⊎◌, ◌&&◌}
use Rattle.costs.specs.Algebra.{Algebra}

abbrev pub pair : Algebra → Algebra → Algebra
pair A B = record {
  Value = A.Value × B.Value;
  unit = (A.unit, B.unit);
  join = λ x y. (A.join x.0 y.0, B.join x.1 y.1);
  Under = λ x y. A.Under x.0 y.0 ⊎ ((x.0 ≡ y.0) × B.Under x.1 y.1);
  Within = λ m x. A.Within m x.0 × B.Within m x.1;
  admits = λ x. A.admits x.0 && B.admits x.1;
}
