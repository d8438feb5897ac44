-- What is known of a request that was read from words.
use Rattle.std.specs.Prelude.{◌≡◌, Option}
use Rattle.std.specs.Coded.{Coded-set, Unit-prop, coded_ℕ, le_prop, Π_prop, ×_prop}
use Rattle.std.specs.Option.{ForSome}
use Rattle.pdb_request.specs.Asked.{HasOddCount}
use Rattle.pdb_request.specs.declared.requests.Request.{Request}
use Rattle.pdb_request.specs.declared.requests.Request.TheVariants as request
use Rattle.pdb_words.specs.Workers.{HasWorkers}

-- it has as many workers as may share a check, and an odd count of parts, where it has any
abbrev pub IsOrderly : Request → Type 0
IsOrderly asked = HasWorkers asked × HasOddCount asked

-- there is one proof of that at most
orderly-prop : (asked : Request) → IsProp (IsOrderly asked)
orderly-prop (request.Replay command) = ×_prop Unit-prop Unit-prop
orderly-prop (request.TableCheck check) = ×_prop (×_prop le_prop le_prop) Unit-prop
orderly-prop (request.LogCheck check) = ×_prop (×_prop le_prop le_prop) Unit-prop
orderly-prop (request.MakeTable command) = ×_prop (×_prop le_prop le_prop) Unit-prop
orderly-prop (request.Solve search) = ×_prop (×_prop le_prop le_prop) Unit-prop
orderly-prop (request.Prove command) = ×_prop (×_prop le_prop le_prop) Unit-prop
orderly-prop (request.JoinParts command) = ×_prop Unit-prop (×_prop (Coded-set coded_ℕ _ _) le_prop)

-- and of what was read, if anything was
pub orderly_one : (asked : Option Request) → IsProp (ForSome asked IsOrderly)
orderly_one asked = Π_prop (λ one. Π_prop (λ is. orderly-prop one))
