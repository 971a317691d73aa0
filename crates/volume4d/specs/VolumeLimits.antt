-- The desk's own limits on volumes and areas, each in this one place.
use Rattle.std.specs.Prelude.{ℕ, ℤ, pos, neg_ℤ, ◌-ℤ◌, Bool, ◌&&◌, int_lt, int_le, nat_le}

-- the lowest altitude of a volume, in decimetres above the WGS84 ellipsoid
abbrev pub min_altitude : ℤ
min_altitude = neg_ℤ (pos 10000)

-- the highest upper bound of a volume's altitudes, in decimetres above the WGS84 ellipsoid
abbrev pub max_altitude : ℤ
max_altitude = pos 200000

-- the latest end of a volume, as a Unix second: the end of the year 9998
abbrev pub max_second : ℤ
max_second = pos 253370764800

-- the greatest length of a volume in time, in seconds: a day
abbrev pub max_length : ℤ
max_length = pos 86400

-- the most cells of a cell list
abbrev pub max_cells : ℕ
max_cells = 64

-- the most cells of the canonical cover of a rectangle
abbrev pub max_cover : ℕ
max_cover = 1024

-- the most volumes of an area
abbrev pub max_volumes : ℕ
max_volumes = 32

-- altitudes lower <= a < upper within the limits
abbrev pub within_altitudes : ℤ → ℤ → Bool
within_altitudes lower upper = int_le min_altitude lower && int_lt lower upper && int_le upper max_altitude

-- Unix seconds start <= t < end, from 1970 to the limit
abbrev pub within_times : ℤ → ℤ → Bool
within_times start end = int_le (pos 0) start && int_lt start end && int_le end max_second

-- the time from start to end is within the limit
abbrev pub within_length : ℤ → ℤ → Bool
within_length start end = int_le (end -ℤ start) max_length

-- a number of cells that a cell list may have
abbrev pub within_cells : ℕ → Bool
within_cells count = nat_le 1 count && nat_le count max_cells

-- a number of cells that the canonical cover of a rectangle may have
abbrev pub within_cover : ℕ → Bool
within_cover count = nat_le count max_cover

-- a number of volumes that an area may have
abbrev pub within_volumes : ℕ → Bool
within_volumes count = nat_le 1 count && nat_le count max_volumes
