-- What inputs give; shelf and reader may tell their bytes or not.
use Rattle.std.specs.Prelude.{◌≡◌, ⊤, ℕ, ◌<◌, ◌≤◌, ◌&&◌, ◌||◌, List, [], ◌∷◌, ◌++◌, Bool, true, false, Option, Some, None, IfSome, IsSome, IsSomeAnd, is_some, length, not, option_map}
use Rattle.std.specs.List.{list_any}
use Rattle.std.specs.Option.{option_map_or}
use Rattle.std.specs.Str.{bytes_eq}
use Rattle.byte_io.specs.Shelf.{Bytes, Files, begins_with}
use Rattle.byte_io.specs.declared.streams.ReadFault.{ReadFault}
use Rattle.byte_io.specs.declared.streams.ReadFault.TheVariants.{F1, F2, Memory}
use Rattle.pdb_run.specs.Commands.{Wanted}
use Rattle.pdb_run.specs.declared.commands.Input.{Input}

-- ---- one input

-- these are the bytes under the name, or of the reader where there is no name
abbrev pub IsReadFrom : Option Files → Option Bytes → Option Bytes → Bytes → Type 0
IsReadFrom files reader None bytes = IfSome reader (λ told. told ≡ bytes)
IsReadFrom files reader (Some name) bytes = IfSome files (λ told. told name ≡ Some bytes)

-- these are its bytes, no more than it may have
abbrev pub IsRead : Option Files → Option Bytes → Wanted → Bytes → Type 0
IsRead files reader wanted bytes = IsReadFrom files reader wanted.name bytes × (length bytes ≤ wanted.limit)

-- they are more than the limit
abbrev pub IsOverLimit : Option Files → Option Bytes → Option Bytes → ℕ → Type 0
IsOverLimit files reader None limit = IfSome reader (λ told. limit < length told)
IsOverLimit files reader (Some name) limit = IfSome files (λ told. IsSomeAnd (told name) (λ bytes. limit < length bytes))

-- whether a shelf has failed, and whether a reader may have: of one that tells it, whether it has
pub record Failures : Type 0 where
  pub shelf : Bool
  pub reader : Bool

-- the failures with these two
abbrev pub failures : Bool → Bool → Failures
failures shelf reader = record { shelf = shelf; reader = reader }

-- what has bytes under this name has failed: the shelf, or the reader where there is no name
abbrev pub HasFailed : Option Bytes → Failures → Type 0
HasFailed None failed = failed.reader ≡ true
HasFailed (Some name) failed = failed.shelf ≡ true

-- why an input was not read: its read failed, or it is over its limit, or memory was wanted to hold it
abbrev pub IsUnread : Option Files → Option Bytes → Failures → Wanted → ReadFault → Type 0
IsUnread files reader failed wanted F1 = HasFailed wanted.name failed
IsUnread files reader failed wanted F2 = IsOverLimit files reader wanted.name wanted.limit
IsUnread files reader failed wanted Memory = ⊤

-- ---- inputs in a row

-- what the reader has left behind an input of this name
abbrev pub left : Option Bytes → Option Bytes → Option Bytes
left reader None = option_map (λ _. []) reader
left reader (Some name) = reader

-- and behind inputs in a row
abbrev pub left_by_all : Option Bytes → List Wanted → Option Bytes
left_by_all reader [] = reader
left_by_all reader (wanted ∷ more) = left_by_all (left reader wanted.name) more

-- these are the bytes of the inputs, each in its place
abbrev pub AreRead : Option Files → Option Bytes → List Wanted → List Bytes → Type 0
AreRead files reader [] [] = ⊤
AreRead files reader [] (bytes ∷ rest) = ⊥
AreRead files reader (wanted ∷ more) [] = ⊥
AreRead files reader (wanted ∷ more) (bytes ∷ rest) = IsRead files reader wanted bytes × AreRead files (left reader wanted.name) more rest

-- the inputs before this one were read, and this one was not
pub record IsFirstUnread (files : Option Files) (reader : Option Bytes) (failed : Failures) (all : List Wanted) (wanted : Wanted) (why : ReadFault) : Type 0 where
  pub before : List Wanted
  pub behind : List Wanted
  pub order : all ≡ before ++ wanted ∷ behind
  pub bytes : List Bytes
  pub read : AreRead files reader before bytes
  pub cause : IsUnread files (left_by_all reader before) failed wanted why

-- where it is told what the reader has, it has that
abbrev pub IsAsTold : Option Bytes → Option Bytes → Type 0
IsAsTold told reader = IfSome told (λ bytes. reader ≡ Some bytes)

-- ---- what is spared

-- one of these inputs has this name
abbrev pub is_input : List Wanted → Bytes → Bool
is_input inputs name = list_any (λ wanted. option_map_or (bytes_eq name) wanted.name false) inputs

-- the bytes under this name begin in one of these ways
abbrev pub begins_as_one : Files → Bytes → List Bytes → Bool
begins_as_one files name fronts = list_any (begins_with files name) fronts

-- there are bytes under this name, and they begin in none of these ways
abbrev pub begins_otherwise : Files → Bytes → List Bytes → Bool
begins_otherwise files name fronts = is_some (files name) && not (begins_as_one files name fronts)

-- the name is that of an input, or what is under it begins in none of these ways
abbrev pub is_spared : List Wanted → List Bytes → Files → Bytes → Bool
is_spared inputs fronts files name = is_input inputs name || begins_otherwise files name fronts

-- there are bytes under this name, and they are such
abbrev pub HasSuch : (Bytes → Type 0) → Option Files → Bytes → Type 0
HasSuch Such files name = IfSome files (λ told. IsSomeAnd (told name) Such)

-- there are none, or they aren't
abbrev pub HasNoSuch : (Bytes → Type 0) → Option Files → Bytes → Type 0
HasNoSuch Such files name = IfSome files (λ told. IfSome (told name) (λ bytes. ¬ Such bytes))

-- there are some, and any bytes may be such, so that these are looked at
pub record TakesLook (Such : Bytes → Type 0) (files : Option Files) (name : Bytes) : Type 0 where
  pub there : IfSome files (λ told. IsSome (told name))
  pub such : (bytes : Bytes) × Such bytes

-- ---- an input as the code has it

-- its name as bytes, and its limit
abbrev pub wanted_of : Input → Wanted
wanted_of input = record { name = option_map (λ s. s.now) input.name; limit = input.limit }
