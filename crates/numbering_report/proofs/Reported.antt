-- The report of a part with its direction as it was tested. Assumes nothing.
use mathlib.Core.Path.{◌≡◌}
use mathlib.Core.Bool.{Bool, true, false}
use Rattle.spec.specs.Numbering.{Direction, Forward, Reversed, PartReport, direction_of}
use Rattle.numbering_part.specs.Part.{found_meaning}
use Rattle.numbering_part.specs.declared.shape.PartFound.{PartFound}

-- the direction, as it was tested
pub way_reversed : {b : Bool} → b ≡ true → Reversed ≡ direction_of b
unfolding direction_of
way_reversed h = rw h

pub way_forward : {b : Bool} → b ≡ false → Forward ≡ direction_of b
unfolding direction_of
way_forward h = rw h

-- the report with the direction d
pub reported_by : (f : PartFound) {d : Direction} → d ≡ direction_of f.turned
    → ◌≡◌ {A = PartReport} (record { v = f.v; u = f.u; k = f.k; width = f.width; passes = f.passes; direction = d }) (found_meaning f)
reported_by f h = rw h
