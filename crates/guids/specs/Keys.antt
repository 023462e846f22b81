-- What keys stand for.
use Rattle.std.specs.Prelude.{ℕ, ◌++◌}
use Rattle.laws.specs.Bytes.{bytes_of}
use Rattle.guids.specs.Guid.{Guid}
use Rattle.guids.specs.declared.key.Key.{Key}

-- a GUID is two words, big-endian
unfoldable pub guid_of : ℕ → ℕ → Guid
guid_of h l = bytes_of 8 h ++ bytes_of 8 l

unfoldable pub key_as : Key → Guid
key_as k = guid_of k.hi k.lo
