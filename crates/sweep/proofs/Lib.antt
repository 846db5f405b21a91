mod Beginning
mod Concluding
mod Whole
