-- What a step of a walk leaves in a first-come list, and where the listed states came from.
use Rattle.std.specs.Prelude.{◌≡◌, ℕ, ◌<◌, List, length}
use Rattle.first_come.specs.Arrivals.{Kept, kept}
use Rattle.walk.specs.declared.walked.Walked.{Walked}
use Rattle.walk.specs.declared.course.Course.{Course}
use Rattle.walk.specs.declared.course.Course.TheVariants.{Underway, Found, Full}
use Rattle.walk.specs.Walks.{Walk, place}
use Rattle.lists.specs.Fronts.{over}

-- the places with just these items listed
abbrev pub filled : {T : Type 0} → Kept T → List T → Kept T
filled k items = kept (over items k.places) (length items)

-- how many places there are
abbrev pub room_of : Kept Walked → ℕ
room_of k = length k.places

-- what a step answered, and what it made of a list, are the walk w
pub record Made (before after : Kept Walked) (answer : Course) (w : Walk) : Type 0 where
  pub course : answer ≡ w.course
  pub listed : after ≡ filled before w.listed

-- each listed state but the first came from an earlier place
abbrev pub Rooted : List Walked → Type 0
Rooted listed = (i : ℕ) → i < length listed → 0 < i → (place listed i).from < i

-- what was found came from a listed state
abbrev pub FoundFromListed : List Walked → Course → Type 0
FoundFromListed listed Underway = Unit {0}
FoundFromListed listed (Found from by) = from < length listed
FoundFromListed listed Full = Unit {0}
