-- Which files stand behind the input and the output.
use Rattle.std.specs.Prelude.{◌≡◌, ◌⊎◌, ⊤}
use Rattle.nx_files.specs.declared.sight.Identity.{Identity}
use Rattle.nx_files.specs.declared.sight.Stream.{Stream}
use Rattle.nx_files.specs.declared.sight.Stream.TheVariants.{NoFile, Known, Unknown}
use Rattle.nx_files.specs.declared.sight.Streams.{Streams}

-- this file may stand behind the stream
abbrev pub MayBe : Stream → Identity → Type 0
MayBe NoFile identity = ⊥
MayBe (Known known) identity = known ≡ identity
MayBe Unknown identity = ⊤

-- of one of them it isn't known what stands behind it
abbrev pub IsUnknown : Streams → Type 0
IsUnknown streams = (streams.input ≡ Unknown) ⊎ (streams.output ≡ Unknown)

-- this file may stand behind the input or the output
abbrev pub MayBeStream : Streams → Identity → Type 0
MayBeStream streams identity = MayBe streams.input identity ⊎ MayBe streams.output identity
