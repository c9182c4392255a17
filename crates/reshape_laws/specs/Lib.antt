-- which layers and rows a job takes, and the snapshot once its chunk takes their place
pub mod Rebasing
