-- What becomes of a stretch.
use Rattle.std.specs.Prelude.{◌≡◌, ◌+◌, ℕ, List, take, drop}
use Rattle.std.specs.Prelude.{Bool, ◌^◌, if◌then◌else◌}
use Rattle.bg_types.specs.Identifier.{Identifier}
use Rattle.bg_types.specs.declared.op.Place.{Place}
use Rattle.rga_runs.specs.declared.stretch.Stretch.{Stretch}
use Rattle.rga_runs.specs.Typed.{later}
use Rattle.rga_runs.specs.Stretches.{elements_of, visible_of}

-- it is a new one, of one character
pub record IsLone (new : Stretch) (id : Identifier) (parent : Place) (start : ℕ) (hidden : Bool) : Type 0 where
  pub start_is : new.start ≡ start
  pub count : new.count ≡ 1
  pub first : new.first ≡ id
  pub parent_is : new.parent ≡ parent
  pub hidden_is : new.hidden ≡ (if hidden then 1 else 0)

-- it takes in m more characters, which are visible
pub record IsGrown (old new : Stretch) (m : ℕ) : Type 0 where
  pub start : new.start ≡ old.start
  pub count : new.count ≡ old.count + m
  pub first : new.first ≡ old.first
  pub parent : new.parent ≡ old.parent
  pub hidden : new.hidden ≡ old.hidden
  pub visible : visible_of new ≡ visible_of old + m

-- its character k, which was visible, is hidden
pub record IsHidden (old new : Stretch) (k : ℕ) : Type 0 where
  pub start : new.start ≡ old.start
  pub count : new.count ≡ old.count
  pub first : new.first ≡ old.first
  pub parent : new.parent ≡ old.parent
  pub hidden : new.hidden ≡ old.hidden + 2 ^ k
  pub visible : visible_of new + 1 ≡ visible_of old

-- it is parted before its character k
pub record IsParted (old new rest : Stretch) (k : ℕ) : Type 0 where
  pub elements : (chars : List ℕ) → elements_of chars new ≡ take k (elements_of chars old)
  pub rest_elements : (chars : List ℕ) → elements_of chars rest ≡ drop k (elements_of chars old)
  pub count : new.count ≡ k
  pub rest_count : k + rest.count ≡ old.count
  pub first : new.first ≡ old.first
  pub rest_first : rest.first ≡ later old.first k
  pub start : new.start ≡ old.start
  pub rest_start : rest.start ≡ old.start + k
  pub visible : visible_of new + visible_of rest ≡ visible_of old
