-- Time zones of time stamps.
-- (Schema.fbs, "Timestamp": a zone is a name of the tz database, or an offset such as `+07:30`.)
use Rattle.std.specs.Prelude.{ℕ, ◌+◌, ◌-◌, ◌*◌, ◌==◌, nat_le, Bool, ◌&&◌, ◌||◌, if◌then◌else◌, ℤ, pos, neg_ℤ, List, [], ◌++◌, length, get_or, Option, Some, None, codes}
use Rattle.lower.specs.Same.{same_text}
use Rattle.lower_display.specs.declared.zone.Zone.{Zone}
use Rattle.lower_display.specs.declared.zone.Zone.TheVariants.{Local, Offset, Utc, Named}

abbrev pub is_digit : ℕ → Bool
is_digit byte = nat_le 48 byte && nat_le byte 57

-- A sign, two digits, a colon and two digits.
abbrev pub is_offset : List ℕ → Bool
is_offset name =
    let at = get_or name in
    length name == 6
    && (((at 0 0 == 43) || (at 0 0 == 45)) && ((at 3 0 == 58) && (is_digit (at 1 0) && (is_digit (at 2 0) && (is_digit (at 4 0) && is_digit (at 5 0))))))

-- The number that is written in the digits at i and i + 1.
abbrev pub two_at : List ℕ → ℕ → ℕ
two_at name i = 10 * (get_or name i 0 - 48) + (get_or name (i + 1) 0 - 48)

-- The minutes of such an offset, east of UTC.
abbrev pub offset_minutes : List ℕ → ℤ
offset_minutes name =
    let minutes = 60 * two_at name 1 + two_at name 4 in
    if get_or name 0 0 == 45 then neg_ℤ (pos minutes) else pos minutes

-- How many minutes east of UTC a zone's times are written: no minutes, unless it is an offset.
abbrev pub zone_minutes : Option (List ℕ) → ℤ
zone_minutes None = pos 0
zone_minutes (Some name) = if is_offset name then offset_minutes name else pos 0

-- What follows the time of a zone: an offset itself, and `Z` for UTC. The times of a named zone are
-- written in UTC, before its name. An empty name is no zone.
abbrev pub zone_shown : Option (List ℕ) → List ℕ
zone_shown None = []
zone_shown (Some name) =
    if is_offset name then name
    else (if length name == 0 then []
    else (if same_text name (codes "UTC") then codes "Z" else codes "Z[" ++ (name ++ codes "]")))

-- ---- zones that were read from their names

abbrev pub minutes_of : Zone → ℤ
minutes_of (Offset minutes _) = minutes
minutes_of _ = pos 0

abbrev pub suffix_of : Zone → List ℕ
suffix_of Local = []
suffix_of (Offset _ name) = name.now
suffix_of Utc = codes "Z"
suffix_of (Named name) = codes "Z[" ++ (name.now ++ codes "]")
