-- Reading an input to its end: what follows from one read, and where reading stops.
use Rattle.std.specs.Prelude.{ℕ, zero, suc, ◌+◌, ◌≤◌, ◌<◌, ◌≡◌, Option, None, Some, Result, Ok, Err, List, [], take, drop}
use Rattle.std.specs.Io.KnownBytes.{Consumes, Keeps, IsAtEnd}
use Rattle.standard_input.specs.declared.Input.{Input}
use Rattle.standard_input.specs.declared.Input.TheVariants as input

-- `read` into a nonempty array returns the number of bytes read, 0 at the end of the input, or an error; here after `done` bytes
abbrev pub after_read : {E : Type 0} → ℕ → Result ℕ E → Result (Option ℕ) E
after_read done (Ok zero) = Ok None
after_read done (Ok (suc k)) = Ok (Some (done + suc k))
after_read done (Err e) = Err e

-- Into an array of n bytes: at the end there is room for at least one more byte, and a full array has no room.
abbrev pub Stops : ℕ → Input → Type 0
Stops n (input.Ended k) = k < n
Stops n (input.Full k) = k ≡ n

-- into an array of n bytes, of which `done` are read: at least one more byte is read, within the array, or reading stops
abbrev pub Goes : {E : Type 0} → ℕ → ℕ → Result (Option ℕ) E → Type 0
Goes n done (Ok (Some k)) = (done < k) × (k ≤ n)
Goes n done (Ok None) = done < n
Goes n done (Err e) = Unit {0}

-- What a read does to the bytes that its reader has left, where they are known: `old` before it, `new` after it. It takes the next ones into the array,
-- after the first `done` bytes there; at the end none are left; a failed read takes none.
abbrev pub Gives : {E : Type 0} → Option (List ℕ) → Option (List ℕ) → ℕ → List ℕ → Result (Option ℕ) E → Type 0
Gives old new done bytes (Ok (Some k)) = Consumes old new (drop done (take k bytes))
Gives old new done bytes (Ok None) = Consumes old new [] × IsAtEnd new
Gives old new done bytes (Err e) = Keeps old new

-- the same for reading to the end: the array has all that was left, or as many of the next ones as it has room for
abbrev pub Fills : Option (List ℕ) → Option (List ℕ) → List ℕ → Input → Type 0
Fills old new bytes (input.Ended k) = Consumes old new (take k bytes) × IsAtEnd new
Fills old new bytes (input.Full k) = Consumes old new (take k bytes)
