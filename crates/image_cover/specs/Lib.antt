-- the places of positions, and which are taken
pub mod Places
-- how places are laid out
pub mod Layouts
-- posting lists of a part, and the places of their hits
pub mod Lists
-- what is known of places while lists are read
pub mod Covers
