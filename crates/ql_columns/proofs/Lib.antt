-- as many columns of one kind
pub mod Lists
