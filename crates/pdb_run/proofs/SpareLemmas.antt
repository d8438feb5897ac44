-- Tests that one of several things passes, and what is spared under a name.
use Rattle.std.proofs.Common.{◌≡◌, ◌∙◌, ◌<◌, ◌+◌, ◌||◌, ℕ, Bool, List, [], ◌∷◌, ◌==◌, Err, None, Ok, Option, Result, Some, ap, arith, false, get_or, is_some, length, map, refl, replicate, sym, take, true}
use Rattle.std.specs.Borrow.{Bor}
use Rattle.std.specs.List.{list_any, starts_with}
use Rattle.std.specs.Option.{option_map_or}
use Rattle.std.specs.Prelude.{◌↔◌, IfSome, IsSome, IsSomeAnd, OnErr}
use Rattle.std.specs.Str.{bytes_eq}
use Rattle.std.proofs.Math.Bool.{or-false}
use Rattle.std.proofs.lemmas.List.{length-replicate}
use Rattle.std.proofs.lemmas.List.Folds.{list_any_at, list_any_more}
use Rattle.byte_io.specs.Shelf.{Bytes, Files, begins_with}
use Rattle.pdb_run.specs.Inputs.{HasNoSuch, HasSuch, TakesLook, begins_as_one, is_input, wanted_of}
use Rattle.pdb_run.specs.declared.commands.Input.{Input}

module _ {X Y : Type 0} (p : Y → Bool) (f : X → Y) where
  -- a test of what each thing is shown as tests the thing
  any_shown : (xs : List X) → list_any p (map f xs) ≡ list_any (λ x. p (f x)) xs
  any_shown [] = refl
  any_shown (x ∷ xs) = ap (λ b. p (f x) || b) (any_shown xs)

  module _ (xs : List X) (i : ℕ) (d : X) (within : i < length xs) where
    -- one more thing is tested
    pub any_more : list_any p (map f (take (i + 1) xs)) ≡ (list_any p (map f (take i xs)) || p (f (get_or xs i d)))
    any_more = any_shown (take (i + 1) xs) ∙ list_any_more (λ x. p (f x)) xs i d within ∙ ap (λ b. b || p (f (get_or xs i d))) (sym (any_shown (take i xs)))

    -- one that passes is enough
    pub any_at : p (f (get_or xs i d)) ≡ true → list_any p (map f xs) ≡ true
    any_at passes = any_shown xs ∙ list_any_at (λ x. p (f x)) xs i d within passes

-- a file that begins in the way at this place begins in one of these
pub front_at : (files : Option Files) (name : Bytes) (fronts : List (Bor Bytes)) (i : ℕ) (d : Bor Bytes) (is : Bool) → i < length fronts
    → IfSome files (λ told. is ≡ begins_with told name (get_or fronts i d).now) → is ≡ true
    → IfSome files (λ told. true ≡ begins_as_one told name (map (λ front. front.now) fronts))
front_at None name fronts i d is within begins true_is = tt
front_at (Some told) name fronts i d is within begins true_is =
    sym (any_at (begins_with told name) (λ front. front.now) fronts i d within (sym begins ∙ true_is))

-- a name that is that of the input at this place is that of one of these
pub input_at : (files : Option Files) (name : Bytes) (inputs : List Input) (i : ℕ) (d : Input) (is : Bool) → i < length inputs
    → IfSome files (λ _. is ≡ is_input (wanted_of (get_or inputs i d) ∷ []) name) → is ≡ true
    → IfSome files (λ _. true ≡ is_input (map wanted_of inputs) name)
input_at None name inputs i d is within has true_is = tt
input_at (Some told) name inputs i d is within has true_is =
    sym (any_at (λ wanted. option_map_or (bytes_eq name) wanted.name false) wanted_of inputs i d within (sym (or-false _) ∙ sym has ∙ true_is))

-- all bytes begin with none
pub begins_so : (found : Option Bytes) → option_map_or (λ bytes. starts_with ◌==◌ bytes []) found false ≡ is_some found
begins_so None = refl
begins_so (Some bytes) = refl

-- ---- what a look tells

module _ {P Q : Bytes → Type 0} (same : (bytes : Bytes) → P bytes ↔ Q bytes) where
  found_as : (found : Option Bytes) → IsSomeAnd found Q → IsSomeAnd found P
  found_as None is = is
  found_as (Some bytes) is = (same bytes).1 is

  unfound_as : (found : Option Bytes) → IfSome found (λ bytes. ¬ Q bytes) → IfSome found (λ bytes. ¬ P bytes)
  unfound_as None is = tt
  unfound_as (Some bytes) is = λ such. is ((same bytes).0 such)

  -- what has such bytes by the one has them by the other
  pub such_as : (files : Option Files) (name : Bytes) → HasSuch Q files name → HasSuch P files name
  such_as None name has = tt
  such_as (Some told) name has = found_as (told name) has

  -- and so has what has none
  pub no_such_as : (files : Option Files) (name : Bytes) → HasNoSuch Q files name → HasNoSuch P files name
  no_such_as None name has = tt
  no_such_as (Some told) name has = unfound_as (told name) has

  -- and what is to be looked at for the one is so for the other
  pub looks_as : (files : Option Files) (name : Bytes) → TakesLook Q files name → TakesLook P files name
  looks_as files name looks = record { there = looks.there; such = (looks.such.0, (same looks.such.0).1 looks.such.1) }

is_there : (files : Option Files) (name bytes : Bytes) → IfSome files (λ told. Some bytes ≡ told name) → IfSome files (λ told. IsSome (told name))
is_there None name bytes found = tt
is_there (Some told) name bytes found = ap is_some (sym found)

on_err : {A E P : Type 0} (result : Result A E) → P → OnErr result P
on_err (Ok answer) is = tt
on_err (Err fault) is = is

module _ {Such : Bytes → Type 0} (most : ℕ) (over : (bytes : Bytes) → most < length bytes → Such bytes) (files : Option Files) (name : Bytes) where
  -- where bytes are there, and longer ones would be such, it takes a look to tell
  pub looks_there : IfSome files (λ told. IsSome (told name)) → TakesLook Such files name
  looks_there there =
      let long : Bytes = replicate (most + 1) 0 in
      record { there = there; such = (long, over long (omega (arith, length-replicate {A = ℕ} (most + 1) 0))) }

  -- also where they were found, and what was told of them is open
  pub looks_found : {A E : Type 0} (result : Result A E) (bytes : Bytes) → IfSome files (λ told. Some bytes ≡ told name)
      → OnErr result (TakesLook Such files name)
  looks_found result bytes found = on_err result (looks_there (is_there files name bytes found))
