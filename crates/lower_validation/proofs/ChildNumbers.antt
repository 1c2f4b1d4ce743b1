-- The indices that type ids name, and the indices that a union must have.
use Rattle.std.proofs.Common.{ℕ, ℤ, pos, negsuc, ◌<◌, List, Option, Some, None}
use Rattle.lower.specs.declared.datatypes.UnionMode.{UnionMode}
use Rattle.lower.specs.declared.datatypes.UnionMode.TheVariants.{Dense, Sparse}
use Rattle.lower_validation.specs.Keys.{place_of, KeyFits}
use Rattle.lower_validation.specs.Ids.{TypeIds, child_number, NamesChild, OffsetsGiven}
use Rattle.lower_validation.specs.Places.{PlacesGiven}

-- A type id that names a child has its index.
pub number_fits : (z : ℤ) (n : ℕ) → KeyFits z n → place_of z < n
number_fits (pos k) n h = h
number_fits (negsuc k) n h = absurd h

pub number_below : (ids : TypeIds) (n : ℕ) (z : ℤ) → NamesChild ids n z → child_number ids z < n
number_below None n z h = number_fits z n h
number_below (Some ids) n z h = h

pub places_given : (m : UnionMode) (os : Option (List ℤ)) (n : ℕ) → OffsetsGiven m os n → PlacesGiven os n
places_given m None n h = tt
places_given Dense (Some os) n h = h
places_given Sparse (Some os) n h = absurd h
