-- `key::unpack` meets its contract: the bytes that std writes of the two words are the words' own.
use Rattle.std.proofs.Common.{div-one}
use Rattle.laws.specs.Bytes.{bytes_of}
use Rattle.guids.specs.Keys.{key_as, guid_of}
use Rattle.guids.proofs.key.unpack.Goals as goal

pub returns : goal.returns
unfolding key_as guid_of bytes_of
returns c = rw (c.to_be_bytes.ensures, c.to_be_bytes-2.ensures) (simp div-one)
