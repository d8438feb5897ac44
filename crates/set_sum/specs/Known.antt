-- What is known of members on a board, by their places.
use Rattle.std.specs.Prelude.{◌≡◌, ℕ, ◌+◌, ◌*◌, ◌^◌, ◌<◌, ◌==◌, if◌then◌else◌, List, length, slice_index}
use Rattle.std.specs.Int.{bit_at}
use Rattle.tab_file.specs.EntryBytes.{no_way_home}
use Rattle.tab_rule.specs.declared.tables.Count.{Count}
use Rattle.tab_rule.specs.declared.tables.Count.TheVariants.{Finite, Never}
use Rattle.set_sum.specs.Bundles.{ShownBundle}
use Rattle.set_sum.specs.Members.{MemberSays}
use Rattle.set_sum.specs.declared.known.Known.{Known}
use Rattle.set_sum.specs.declared.members.Member.{Member}

-- the place of a member: two for each table, the first for the plain member
abbrev pub place_of : Member → ℕ
place_of m = 2 * m.table + (if m.is_transposed then 1 else 0)

-- what the entry of a table says
abbrev pub said_by : ℕ → Count
said_by entry = if entry == no_way_home then Never else Finite entry

-- what is known of members of the board is what they say of it
pub record IsKnownOf (v : ShownBundle) (b : List ℕ) (known : Known) : Type 0 where
  pub size : length known.entries ≡ 32
  pub small : known.places < 2 ^ 32
  pub each : (m : Member) → m.table < length v.tables → bit_at known.places (place_of m) ≡ 1 →
      MemberSays v.tables m b (said_by (slice_index known.entries (place_of m)))
