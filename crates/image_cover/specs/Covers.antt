-- What a cover shows.
use Rattle.bit_lists.specs.BitLists.{bits_of}
use Rattle.image_cover.specs.Places.{Seen}
use Rattle.image_cover.specs.declared.cover.Cover.{Cover}

-- which places are taken, and the least row in which one was taken twice
abbrev pub seen : Cover → Seen
seen cover = (bits_of cover.taken, cover.least)
